use Rattle.tm_forms.proofs.Utf8Texts.{text-some, text-none}
use Rattle.tm_forms.proofs.utf8.text_of.Goals as goal

pub returns-in-Ok : goal.returns-in-Ok
returns-in-Ok c = text-some c.args.bytes.now c.in-Ok.text.now c.in-Ok.ensures.cases.0 c.in-Ok.ensures.cases.1

pub returns-in-Err : goal.returns-in-Err
returns-in-Err c = text-none c.args.bytes.now c.in-Err.ensures.cases.0
