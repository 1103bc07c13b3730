use Rattle.tm_state.proofs.Under.{closed-tables, fronts-first}
use Rattle.tm_state.proofs.states.StateTable.prove_closed.Goals as goal

pub returns-clause-entries : goal.returns-clause-entries
returns-clause-entries c = rw (← c.self.view_is) (closed-tables c.self.inside.scopes c.self.inside.states c.self.invariant c.prove_known.ensures.entries)

pub returns-clause-order : goal.returns-clause-order
returns-clause-order c = rw (← c.self.view_is) (fronts-first c.self.inside.scopes c.self.inside.states c.self.invariant)
