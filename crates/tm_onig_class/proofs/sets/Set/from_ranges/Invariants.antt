use Rattle.std.proofs.Common.{◌≡◌, take}
use Rattle.tm_onig_class.proofs.sets.Set.from_ranges.Given as goal

abbrev pub invariant-loop-i : goal.invariant-loop-i
invariant-loop-i l = l.codes.items ≡ take l.i l.ranges
