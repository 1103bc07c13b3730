use Rattle.std.proofs.Common.{◌≡◌, ◌≤◌, ℕ, take}
use Rattle.regex_class.specs.Ranges.{in_ranges}
use Rattle.tm_onig_class.specs.Listed.{among}
use Rattle.tm_onig_class.proofs.listed.collect.Given as goal

abbrev pub invariant-loop-i : goal.invariant-loop-i
invariant-loop-i l = (c : ℕ) → c ≤ 0x10FFFF → in_ranges l.out.items c ≡ among (take l.i l.sets) l.ranges c
