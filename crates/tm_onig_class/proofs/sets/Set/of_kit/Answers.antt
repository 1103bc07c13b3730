use Rattle.std.proofs.Common.{◌∙◌}
use Rattle.std.proofs.lemmas.Result.{IfOk-weaker}
use Rattle.tm_onig_class.proofs.Codes.{among_alone}
use Rattle.tm_onig_class.proofs.sets.Set.of_kit.Goals as goal

pub returns : goal.returns
returns c = IfOk-weaker c.set_among.result _ _ (λ s h x is. h x is ∙ among_alone c.args.set x) c.set_among.ensures
