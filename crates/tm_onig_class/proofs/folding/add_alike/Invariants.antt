use Rattle.std.proofs.Common.{◌≡◌, ℕ, ◌||◌, take}
use Rattle.regex_class.specs.Ranges.{in_ranges}
use Rattle.tm_onig_class.specs.Folding.{any_alike}
use Rattle.tm_onig_class.proofs.folding.add_alike.Given as goal

abbrev pub invariant-loop-i : goal.invariant-loop-i
invariant-loop-i l = (r : ℕ) → in_ranges l.out.items r ≡ (in_ranges l.fn.out.items r || any_alike (take l.i l.pairs) l.class.ranges.items r)
