use Rattle.std.proofs.Common.{◌≡◌, length}
use Rattle.tm_template.specs.Ends.{has_reference}
use Rattle.tm_template.proofs.ends.has_references.Given as goal

abbrev pub invariant-loop-rest : goal.invariant-loop-rest
invariant-loop-rest l = has_reference l.rest ≡ has_reference l.text

abbrev pub decreases-loop-rest : goal.decreases-loop-rest
decreases-loop-rest l = length l.rest
