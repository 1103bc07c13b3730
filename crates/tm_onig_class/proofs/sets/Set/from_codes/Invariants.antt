use Rattle.std.proofs.Common.{◌≡◌, ℕ, take}
use Rattle.regex_class.specs.Ranges.{in_ranges}
use Rattle.tm_onig_class.specs.Ranks.{rank_of, AreRanks}
use Rattle.tm_onig_class.specs.Members.{IsChar}
use Rattle.tm_onig_class.proofs.sets.Set.from_codes.Given as goal

abbrev pub invariant-loop-i : goal.invariant-loop-i
invariant-loop-i l =
    ((c : ℕ) → IsChar c → in_ranges l.ranks.items (rank_of c) ≡ in_ranges (take l.i l.ranges) c)
    × AreRanks l.ranks.items
