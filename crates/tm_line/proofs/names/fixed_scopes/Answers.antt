use Rattle.tm_line.proofs.Fixed.{are-names}
use Rattle.tm_line.proofs.names.fixed_scopes.Goals as goal

pub returns-in-Some : goal.returns-in-Some
returns-in-Some c = rw c.in-Some.is (are-names c.in-Some.name.now c.fixed_names.result c.fixed_names.ensures.fixed)
