use Rattle.std.proofs.Common.{◌≡◌, ℕ, ◌<◌, false}
use Rattle.regex_class.specs.Ranges.{range_at, in_ranges}
use Rattle.tm_onig_class.specs.Ranks.{rank_of}
use Rattle.tm_onig_class.proofs.folding.meets_alike.Given as goal

abbrev pub invariant-loop-i : goal.invariant-loop-i
invariant-loop-i l =
    (k : ℕ) → k < l.i → (range_at l.pairs k).0 ≡ l.code → in_ranges l.class.ranges.items (rank_of (range_at l.pairs k).1) ≡ false
