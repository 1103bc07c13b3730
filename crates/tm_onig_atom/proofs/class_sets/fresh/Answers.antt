use Rattle.std.proofs.Common.{refl}
use Rattle.tm_onig_atom.proofs.SidesWalk.{no_ranges}
use Rattle.tm_onig_atom.proofs.class_sets.fresh.Goals as goal

pub returns : goal.returns
returns c = λ fold x is. (refl, no_ranges fold _ _ x c.new-ranges.ensures.items (c.in_ok-set.ensures x is))
