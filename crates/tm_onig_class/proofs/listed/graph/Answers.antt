use Rattle.std.proofs.Common.{◌∙◌, ap, ap₂, not, ◌||◌}
use Rattle.std.proofs.lemmas.Result.{IfOk-weaker}
use Rattle.tm_onig_class.proofs.listed.graph.Goals as goal

pub returns : goal.returns
returns c = IfOk-weaker c.complement-2.result _ _
    (λ s h x is. h x is ∙ ap not (c.in_ok-union.ensures x is ∙ ap₂ ◌||◌ (c.in_ok-blanks.ensures x is) (c.in_ok-set_among.ensures x is)))
    c.complement-2.ensures
