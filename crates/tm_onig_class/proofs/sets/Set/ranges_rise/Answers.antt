use Rattle.std.proofs.Common.{subst, IsTrue}
use Rattle.std.specs.Arc.{arc_value}
use Rattle.tm_onig_class.specs.Members.{ranges_rise}
use Rattle.tm_onig_class.proofs.Rising.{canonical-rises}
use Rattle.tm_onig_class.proofs.sets.Set.ranges_rise.Goals as goal

pub returns : goal.returns
returns c = subst (λ v. IsTrue (ranges_rise 0 v)) c.self.view_is (canonical-rises (arc_value c.self.inside.class).ranges.items (arc_value c.self.inside.class).canonical c.self.invariant.bounded)
