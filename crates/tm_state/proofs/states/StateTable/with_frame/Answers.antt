use Rattle.tm_state.proofs.WithFrame.{mid-invariant, mid-grows, mid-limits, mid-parent, last-ok, last-grows, last-absent, last-full, last-limits}
use Rattle.tm_state.proofs.states.StateTable.with_frame.Goals as goal

pub invariant_of-self : goal.invariant_of-self
invariant_of-self c = mid-invariant c.self.inside.scopes c.frame_within.new.scopes c.self.inside.states c.self.invariant c.args.frame.now c.frame_within.ensures.grows c.args.parent

pub returns-in-Err-clause-grows : goal.returns-in-Err-clause-grows
returns-in-Err-clause-grows c = rw (← c.self.view_is) (mid-grows c.self.inside.scopes c.frame_within.new.scopes c.self.inside.states c.self.invariant c.args.frame.now c.frame_within.ensures.grows c.args.parent)

pub returns-in-Err-clause-limit : goal.returns-in-Err-clause-limit
returns-in-Err-clause-limit c = rw (← c.self.view_is) (mid-limits c.self.inside.scopes c.frame_within.new.scopes c.self.inside.states c.self.invariant c.args.frame.now c.frame_within.ensures.grows c.args.parent c.args.limit c.frame_within.ensures.limit)

pub invariant_of-self-2 : goal.invariant_of-self-2
invariant_of-self-2 c = mid-invariant c.self.inside.scopes c.frame_within.new.scopes c.self.inside.states c.self.invariant c.args.frame.now c.frame_within.ensures.grows c.args.parent

pub intern_within-requires-clause-parent : goal.intern_within-requires-clause-parent
intern_within-requires-clause-parent c =
    mid-parent c.self.inside.scopes c.frame_within.new.scopes c.self.inside.states c.self.invariant c.args.frame.now c.frame_within.ensures.grows c.args.parent (rw (← c.self.view_is) at c.requires.parent) c.in-Ok.number c.in-Ok.ensures.range c.in-Ok.ensures.ok

pub returns-clause-ok : goal.returns-clause-ok
returns-clause-ok c =
    rw (← c.self.view_is) (last-ok c.self.inside.scopes c.frame_within.new.scopes c.self.inside.states c.self.invariant c.args.frame.now c.frame_within.ensures.grows c.args.parent (rw (← c.self.view_is) at c.requires.parent) c.in-Ok.number c.in-Ok.ensures.range c.in-Ok.ensures.ok
    c.intern_within.result c.intern_within.new.self c.intern_within.ensures.ok)

pub returns-clause-grows : goal.returns-clause-grows
returns-clause-grows c =
    rw (← c.self.view_is) (last-grows c.self.inside.scopes c.frame_within.new.scopes c.self.inside.states c.self.invariant c.args.frame.now c.frame_within.ensures.grows c.args.parent (rw (← c.self.view_is) at c.requires.parent) c.in-Ok.number c.in-Ok.ensures.range c.in-Ok.ensures.ok
    c.intern_within.new.self c.intern_within.ensures.grows)

pub returns-clause-limit : goal.returns-clause-limit
returns-clause-limit c =
    rw (← c.self.view_is) (last-limits c.self.inside.scopes c.frame_within.new.scopes c.self.inside.states c.self.invariant c.args.frame.now c.frame_within.ensures.grows c.args.parent (rw (← c.self.view_is) at c.requires.parent) c.in-Ok.number c.in-Ok.ensures.range c.in-Ok.ensures.ok
    c.args.limit c.intern_within.new.self c.frame_within.ensures.limit c.intern_within.ensures.limit)

pub returns-clause-absent : goal.returns-clause-absent
returns-clause-absent c =
    rw (← c.self.view_is) (last-absent c.self.inside.scopes c.frame_within.new.scopes c.self.inside.states c.self.invariant c.args.frame.now c.frame_within.ensures.grows c.args.parent (rw (← c.self.view_is) at c.requires.parent) c.in-Ok.number c.in-Ok.ensures.range c.in-Ok.ensures.ok
    c.intern_within.result c.intern_within.ensures.absent)

pub returns-clause-full : goal.returns-clause-full
returns-clause-full c =
    rw (← c.self.view_is) (last-full c.self.inside.scopes c.frame_within.new.scopes c.self.inside.states c.self.invariant c.args.frame.now c.frame_within.ensures.grows c.args.parent (rw (← c.self.view_is) at c.requires.parent) c.in-Ok.number c.in-Ok.ensures.range c.in-Ok.ensures.ok
    c.args.limit c.intern_within.result c.intern_within.new.self c.intern_within.ensures.full)
