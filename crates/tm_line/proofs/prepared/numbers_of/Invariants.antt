use Rattle.std.proofs.Common.{◌≡◌, ◌++◌, drop, map}
use Rattle.tm_line.specs.inner.Prepared.{number_of}
use Rattle.tm_line.proofs.prepared.numbers_of.Given as goal

abbrev pub invariant-loop-candidate : goal.invariant-loop-candidate
invariant-loop-candidate l = l.numbers.items ++ map (number_of l.count l.n) (drop l.candidate-index l.candidates) ≡ map (number_of l.count l.n) l.candidates
