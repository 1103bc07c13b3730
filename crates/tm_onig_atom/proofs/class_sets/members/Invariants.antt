use Rattle.std.proofs.Common.{◌≡◌, ℕ, true, false, drop}
use Rattle.tm_onig_class.specs.Members.{IsChar}
use Rattle.tm_onig_atom.specs.inner.Sides.{met_has, side_now, walked}
use Rattle.tm_onig_atom.proofs.class_sets.members.Given as goal

abbrev pub invariant-parts : goal.invariant-parts
invariant-parts l = (c : ℕ) → IsChar c → walked l.fold (drop l.i l.parts) (met_has l.gathered.met c) (side_now l.fold l.gathered c) c ≡ walked l.fold l.parts true false c
