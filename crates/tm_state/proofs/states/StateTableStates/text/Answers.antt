use Rattle.tm_defs.specs.Tables.{only_text}
use Rattle.tm_state.proofs.Grown.{states-kept, tables-grow}
use Rattle.tm_state.proofs.states.StateTableStates.text.Goals as goal

pub invariant_of-self : goal.invariant_of-self
invariant_of-self c = states-kept (only_text c.args.text.now) c.self.inside.scopes c.text.new.self c.text.ensures.grows c.self.inside.states c.self.invariant

pub returns-clause-grows : goal.returns-clause-grows
returns-clause-grows c = rw (← c.self.view_is) (tables-grow (only_text c.args.text.now) c.self.inside.scopes c.text.new.self c.text.ensures.grows c.self.inside.states c.self.invariant)
