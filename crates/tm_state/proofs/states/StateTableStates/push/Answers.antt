use Rattle.std.proofs.Common.{[], ◌∷◌}
use Rattle.tm_defs.specs.Tables.{only_path, longer_path}
use Rattle.tm_state.proofs.Grown.{states-kept, tables-grow, err-full_some}
use Rattle.tm_state.proofs.states.StateTableStates.push.Goals as goal

pub invariant_of-self : goal.invariant_of-self
invariant_of-self c = states-kept (only_path (longer_path c.self.inside.scopes c.args.list c.args.name)) c.self.inside.scopes c.push.new.self c.push.ensures.grows c.self.inside.states c.self.invariant

pub returns-clause-ok : goal.returns-clause-ok
returns-clause-ok c = rw (← c.self.view_is) c.push.ensures.ok

pub returns-clause-grows : goal.returns-clause-grows
returns-clause-grows c = rw (← c.self.view_is) (tables-grow (only_path (longer_path c.self.inside.scopes c.args.list c.args.name)) c.self.inside.scopes c.push.new.self c.push.ensures.grows c.self.inside.states c.self.invariant)

pub returns-clause-full : goal.returns-clause-full
returns-clause-full c = rw (← c.self.view_is) (err-full_some c.push.result [] (longer_path c.self.inside.scopes c.args.list c.args.name ∷ []) c.push.new.self c.self.inside.states.values c.push.ensures.full)
