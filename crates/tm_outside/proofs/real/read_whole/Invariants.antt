use Rattle.std.proofs.Common.{◌≡◌, ◌≤◌, ◌++◌, List, ℕ, length}
use Rattle.tm_outside.specs.Files.{greatest_file}
use Rattle.tm_outside.proofs.real.read_whole.Given as goal

abbrev pub invariant-loop : goal.invariant-loop
invariant-loop l = (bytes : List ℕ) × (l.into.items ≡ l.fn.into.items ++ bytes) × (length bytes ≡ l.count) × (l.count ≤ greatest_file)
