use Rattle.std.proofs.Common.{◌≡◌, ℕ, ◌≤◌, false}
use Rattle.tm_onig_class.specs.Ascii.{has_bit, AgreeBelow}
use Rattle.tm_onig_class.proofs.ascii.ascii_of.Given as goal

abbrev pub invariant-loop-code : goal.invariant-loop-code
invariant-loop-code l = AgreeBelow l.code l.ascii l.class.ranges.items × ((i : ℕ) → l.code ≤ i → has_bit l.ascii i ≡ false)
