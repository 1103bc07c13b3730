use Rattle.tm_state.proofs.Grown.{tables-numbering}
use Rattle.tm_state.proofs.states.StateTableStates.prove_known.Goals as goal

pub returns : goal.returns
returns c = rw (← c.self.view_is) (tables-numbering c.self.inside.scopes c.self.inside.states c.self.invariant c.prove_known.ensures.numbering)
