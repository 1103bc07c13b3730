use Rattle.tm_scope.proofs.Closed.{closed-paths}
use Rattle.tm_scope.proofs.scopes.ScopeTable.prove_known.Goals as goal

pub returns-clause-entries : goal.returns-clause-entries
returns-clause-entries c = rw (← c.self.view_is) (closed-paths c.self.inside.texts c.self.inside.lists c.self.inside.limit c.self.invariant)
