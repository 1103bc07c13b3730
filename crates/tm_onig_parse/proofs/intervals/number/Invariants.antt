use Rattle.std.proofs.Common.{◌≡◌, length, Some}
use Rattle.tm_onig_parse.specs.inner.Reading.{number_at}
use Rattle.tm_onig_parse.proofs.intervals.number.Given as goal

abbrev pub invariant-loop-rest : goal.invariant-loop-rest
invariant-loop-rest l = number_at l.value l.rest ≡ number_at (Some 0) l.text

abbrev pub decreases-loop-rest : goal.decreases-loop-rest
decreases-loop-rest l = length l.rest
