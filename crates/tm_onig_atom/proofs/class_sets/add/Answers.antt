use Rattle.std.proofs.Common.{◌∙◌}
use Rattle.std.proofs.lemmas.Result.{IfOk-weaker}
use Rattle.tm_onig_atom.proofs.class_sets.add.Goals as goal

pub returns-in_ok-ended-in-Meets : goal.returns-in_ok-ended-in-Meets
returns-in_ok-ended-in-Meets c = rw c.in-Meets.is
    (IfOk-weaker c.fresh.result _ _ (λ g h x is. let both = h c.args.fold x is in (both.0 ∙ c.in_ok-ended-in-Meets.ensures x is, both.1)) c.fresh.ensures)
