use Rattle.std.proofs.Common.{◌-◌, ℕ, ◌<◌, ◌≤◌, length}
use Rattle.regex_class.specs.Ranges.{range_at}
use Rattle.tm_onig_class.proofs.folding.first_place.Given as goal

abbrev pub invariant-loop-low : goal.invariant-loop-low
invariant-loop-low l =
    (l.low ≤ l.high)
    × (l.high ≤ length l.pairs)
    × ((k : ℕ) → k < l.low → (range_at l.pairs k).0 < l.code)
    × ((k : ℕ) → l.high ≤ k → k < length l.pairs → l.code ≤ (range_at l.pairs k).0)

abbrev pub decreases-loop-low : goal.decreases-loop-low
decreases-loop-low l = l.high - l.low
