use Rattle.std.proofs.Common.{◌≡◌, length}
use Rattle.tm_onig_parse.specs.inner.Reading.{digits_at}
use Rattle.tm_onig_parse.proofs.intervals.digits.Given as goal

abbrev pub invariant-loop-rest : goal.invariant-loop-rest
invariant-loop-rest l = digits_at l.any l.rest ≡ digits_at l.fn.some l.text

abbrev pub decreases-loop-rest : goal.decreases-loop-rest
decreases-loop-rest l = length l.rest
