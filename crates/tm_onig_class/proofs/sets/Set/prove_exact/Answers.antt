use Rattle.std.proofs.Common.{ap, sym, ◌∙◌}
use Rattle.std.specs.Arc.{arc_value}
use Rattle.tm_onig_class.specs.Members.{has_char}
use Rattle.tm_onig_class.proofs.Exact.{exact}
use Rattle.tm_onig_class.proofs.sets.Set.prove_exact.Goals as goal

pub returns : goal.returns
returns c = λ test same.
    sym c.self.view_is ∙ exact (arc_value c.self.inside.class).ranges.items test (arc_value c.self.inside.class).canonical c.self.invariant.bounded
    (λ x is. ap (λ v. has_char v x) c.self.view_is ∙ same x is)
