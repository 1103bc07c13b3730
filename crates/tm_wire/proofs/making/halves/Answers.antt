use Rattle.std.proofs.Common.{rules}
use Rattle.std.proofs.lemmas.List.Elements.{All-nil}
use Rattle.tm_wire.proofs.Passing.{begins, forks}
use Rattle.tm_wire.proofs.making.halves.Goals as goal

pub ruled-requires-clause-rule : goal.ruled-requires-clause-rule
ruled-requires-clause-rule g c = begins _ _ (All-nil _)

pub another-popping-requires-clause-rule : goal.another-popping-requires-clause-rule
another-popping-requires-clause-rule g c = forks _ _ _ _ (search rules) (search rules) (search rules)
