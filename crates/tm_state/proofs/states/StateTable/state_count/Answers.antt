use Rattle.std.proofs.Common.{◌∙◌, sym}
use Rattle.tm_state.proofs.Grown.{count-states}
use Rattle.tm_state.proofs.states.StateTable.state_count.Goals as goal

pub returns : goal.returns
returns c = rw (← c.self.view_is) (c.taken.ensures ∙ sym (count-states c.self.inside.scopes c.self.inside.states c.self.invariant))
