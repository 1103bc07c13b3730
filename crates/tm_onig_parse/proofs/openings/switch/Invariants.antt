use Rattle.std.proofs.Common.{◌≡◌, true, length}
use Rattle.tm_onig_parse.specs.inner.Reading.{switch_at}
use Rattle.tm_onig_parse.proofs.openings.switch.Given as goal

abbrev pub invariant-loop-rest : goal.invariant-loop-rest
invariant-loop-rest l = switch_at l.on l.now l.rest ≡ switch_at true l.fn.options l.text

abbrev pub decreases-loop-rest : goal.decreases-loop-rest
decreases-loop-rest l = length l.rest
