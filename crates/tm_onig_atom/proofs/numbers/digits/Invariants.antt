use Rattle.std.proofs.Common.{◌≡◌, ◌<◌, ◌^◌, length}
use Rattle.tm_onig_atom.specs.inner.Reading.{digits_at}
use Rattle.tm_onig_atom.proofs.numbers.digits.Given as goal

abbrev pub invariant-loop-rest : goal.invariant-loop-rest
invariant-loop-rest l = (digits_at l.base l.most l.value l.count l.rest ≡ digits_at l.base l.most 0 0 l.text) × (l.value < 16 ^ l.count)

abbrev pub decreases-loop-rest : goal.decreases-loop-rest
decreases-loop-rest l = length l.rest
