use Rattle.std.proofs.Common.{◌≡◌, ◌++◌, length, List, ℕ}
use Rattle.tm_onig_parse.specs.inner.Reading.{name_at}
use Rattle.tm_onig_parse.proofs.names.name_chars.Given as goal

abbrev pub invariant-loop-rest : goal.invariant-loop-rest
invariant-loop-rest l = ◌≡◌ {A = List ℕ × List ℕ} (name_at l.text) (l.name.items ++ (name_at l.rest).0, (name_at l.rest).1)

abbrev pub decreases-loop-rest : goal.decreases-loop-rest
decreases-loop-rest l = length l.rest
