use Rattle.std.proofs.Common.{refl}
use Rattle.tm_onig_atom.proofs.SidesWalk.{set_more}
use Rattle.tm_onig_atom.proofs.class_sets.add_class.Goals as goal

pub returns : goal.returns
returns c = λ fold x is. (refl, set_more _ _ _ _ (c.in_ok-more.ensures x is))
