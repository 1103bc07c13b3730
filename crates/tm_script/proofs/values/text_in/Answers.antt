use Rattle.tm_script.proofs.Listed.{utf8-some, utf8-none}
use Rattle.tm_script.proofs.values.text_in.Goals as goal

pub returns-in-Ok : goal.returns-in-Ok
returns-in-Ok c = utf8-some c.args.bytes.now c.in-Ok.text.now c.in-Ok.ensures.cases.0 c.in-Ok.ensures.cases.1

pub returns-in-Err : goal.returns-in-Err
returns-in-Err c = utf8-none c.args.bytes.now c.in-Err.ensures.cases.0
