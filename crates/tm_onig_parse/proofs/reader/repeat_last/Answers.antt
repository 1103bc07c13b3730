use Rattle.std.proofs.Common.{Option, List, map, sym, subst, arith}
use Rattle.tm_onig_parse.specs.Meaning.{Built}
use Rattle.tm_onig_parse.specs.inner.Reading.{more_times}
use Rattle.tm_onig_parse.specs.inner.Views.{Steps, built_of}
use Rattle.tm_onig_parse.proofs.Steps.{no_last, last_changed, last_fails}
use Rattle.tm_onig_parse.proofs.reader.repeat_last.Goals as goal

pub returns-in_default : goal.returns-in_default
returns-in_default c = no_last _ c.args.row.now.items (omega (arith, c.in_default.ensures.cases.0))

pub returns-in-Ok : goal.returns-in-Ok
returns-in-Ok c =
    subst (λ (o : Option (List Built)). Steps c.push.result (map built_of c.push.new.parts.items) o)
    (sym (last_changed (more_times c.args.least c.args.greatest c.args.manner) _ _ c.in-Some.part c.in-Ok.whole c.in-Some.ensures.items c.in-Ok.ensures))
    c.push.ensures

pub returns-in-Err : goal.returns-in-Err
returns-in-Err c = last_fails c.in-Err.fault (more_times c.args.least c.args.greatest c.args.manner) _ _ c.in-Some.part c.in-Some.ensures.items c.in-Err.ensures
