use Rattle.std.proofs.Common.{◌≡◌, length}
use Rattle.tm_template.specs.Names.{has_name_reference}
use Rattle.tm_template.proofs.names.has_name_references.Given as goal

abbrev pub invariant-loop-rest : goal.invariant-loop-rest
invariant-loop-rest l = has_name_reference l.rest ≡ has_name_reference l.template

abbrev pub decreases-loop-rest : goal.decreases-loop-rest
decreases-loop-rest l = length l.rest
