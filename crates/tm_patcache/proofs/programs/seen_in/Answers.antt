use Rattle.std.proofs.Common.{Some, None, sym, ap, ◌∙◌}
use Rattle.tm_patcache.proofs.Kept.{lookup-right}
use Rattle.tm_patcache.proofs.programs.seen_in.Goals as goal

pub returns-in_ok-clone-in-Some-Some-clause-right :
    goal.returns-in_ok-clone-in-Some-Some-clause-right
returns-in_ok-clone-in-Some-Some-clause-right c =
    rw c.in_ok-clone-in-Some-Some.ensures.cases (lookup-right c.args.kept.now.entries c.args.text.now (Some c.in-Some-Some.program) c.requires (sym c.in-Some-Some.ensures ∙ ap Some c.in-Some-Some.field-0-is))

pub returns-in-Some-None-clause-right : goal.returns-in-Some-None-clause-right
returns-in-Some-None-clause-right c =
    lookup-right c.args.kept.now.entries c.args.text.now None c.requires (sym c.in-Some-None.ensures ∙ ap Some c.in-Some-None.field-0-is)
