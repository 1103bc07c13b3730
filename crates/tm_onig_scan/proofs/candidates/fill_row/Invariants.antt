use Rattle.std.proofs.Common.{◌≡◌, ℕ, Option}
use Rattle.tm_onig_vm.specs.First.{next_class}
use Rattle.tm_onig_scan.specs.Winner.{trees_of, patterns_at}
use Rattle.tm_onig_scan.proofs.Rows.{IsMadeTo}
use Rattle.tm_onig_scan.proofs.candidates.fill_row.Given as goal

abbrev pub invariant-loop-place : goal.invariant-loop-place
invariant-loop-place l = (next : Option ℕ) → next_class next ≡ l.class → IsMadeTo l.behind next (patterns_at (trees_of l.programs) l.numbers) l.place l.places.items
