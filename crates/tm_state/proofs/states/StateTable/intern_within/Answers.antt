use Rattle.tm_state.proofs.Interned.{intern-absent, intern-full, intern-invariant, intern-ok, intern-grows, intern-limits}
use Rattle.tm_state.proofs.states.StateTable.intern_within.Goals as goal

pub returns-in-Err-clause-absent : goal.returns-in-Err-clause-absent
returns-in-Err-clause-absent c =
    rw (← c.self.view_is) (intern-absent c.self.inside.scopes c.self.inside.states c.self.invariant c.prove_known.ensures.numbering c.args.frame c.args.parent (rw (← c.self.view_is) at c.requires.parent) (rw (← c.self.view_is) at c.requires.frame) c.in-Err.ensures.absent)

pub returns-in-Err-clause-full : goal.returns-in-Err-clause-full
returns-in-Err-clause-full c =
    rw (c.in-Err.ensures.err, ← c.self.view_is) (intern-full c.self.inside.scopes c.self.inside.states c.self.invariant c.prove_known.ensures.numbering c.args.frame c.args.parent (rw (← c.self.view_is) at c.requires.parent) (rw (← c.self.view_is) at c.requires.frame)
    c.args.limit c.in-Err.fault c.in-Err.ensures.full c.in-Err.ensures.absent)

pub invariant_of-self-2 : goal.invariant_of-self-2
invariant_of-self-2 c =
    intern-invariant c.self.inside.scopes c.self.inside.states c.self.invariant c.prove_known.ensures.numbering c.args.frame c.args.parent (rw (← c.self.view_is) at c.requires.parent) (rw (← c.self.view_is) at c.requires.frame)
    c.intern.new.self c.in-Ok.ensures.values c.intern.ensures.first c.args.limit c.intern.ensures.limit (rw (← c.self.view_is) at c.requires.limit)

pub returns-clause-ok : goal.returns-clause-ok
returns-clause-ok c =
    rw (← c.self.view_is) (intern-ok c.self.inside.scopes c.self.inside.states c.self.invariant c.prove_known.ensures.numbering c.args.frame c.args.parent (rw (← c.self.view_is) at c.requires.parent) (rw (← c.self.view_is) at c.requires.frame)
    c.intern.new.self c.in-Ok.ensures.values c.intern.ensures.first c.in-Ok.number c.in-Ok.ensures.ok)

pub returns-clause-grows : goal.returns-clause-grows
returns-clause-grows c =
    rw (← c.self.view_is) (intern-grows c.self.inside.scopes c.self.inside.states c.self.invariant c.prove_known.ensures.numbering c.args.frame c.args.parent (rw (← c.self.view_is) at c.requires.parent) (rw (← c.self.view_is) at c.requires.frame)
    c.intern.new.self c.in-Ok.ensures.values c.intern.ensures.first)

pub returns-clause-limit : goal.returns-clause-limit
returns-clause-limit c =
    rw (← c.self.view_is) (intern-limits c.self.inside.scopes c.self.inside.states c.self.invariant c.prove_known.ensures.numbering c.args.frame c.args.parent (rw (← c.self.view_is) at c.requires.parent) (rw (← c.self.view_is) at c.requires.frame)
    c.intern.new.self c.in-Ok.ensures.values c.intern.ensures.first c.args.limit c.intern.ensures.limit)
