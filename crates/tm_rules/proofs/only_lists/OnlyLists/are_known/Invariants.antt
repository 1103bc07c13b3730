use Rattle.std.proofs.Common.{◌≡◌, ℕ, ◌<◌, true, false, get_or, slice_get}
use Rattle.tm_rules.specs.Readers.{is_only}
use Rattle.tm_rules.proofs.only_lists.OnlyLists.are_known.Given as goal

abbrev pub invariant-loop-number : goal.invariant-loop-number
invariant-loop-number l = (k : ℕ) → k < l.number-index → is_only (slice_get l.self.rules.now (get_or l.numbers k 0)) ≡ true → get_or l.self.made.items (get_or l.numbers k 0) false ≡ true
