use Rattle.tm_scope.proofs.Pushed.{push-absent, push-full, push-invariant, push-ok, push-grows, push-limits}
use Rattle.tm_scope.proofs.scopes.ScopeTable.push_within.Goals as goal

pub returns-in-Err-clause-absent : goal.returns-in-Err-clause-absent
returns-in-Err-clause-absent c =
    rw (← c.self.view_is) (push-absent c.self.inside.texts c.self.inside.lists c.self.inside.limit c.self.invariant c.args.list c.args.name (rw (← c.self.view_is) at c.requires.list) (rw (← c.self.view_is) at c.requires.name) c.in-Err.ensures.absent)

pub returns-in-Err-clause-full : goal.returns-in-Err-clause-full
returns-in-Err-clause-full c =
    rw (c.in-Err.ensures.err, ← c.self.view_is) (push-full c.self.inside.texts c.self.inside.lists c.self.inside.limit c.self.invariant c.args.list c.args.name (rw (← c.self.view_is) at c.requires.list) (rw (← c.self.view_is) at c.requires.name) c.args.limit c.in-Err.fault c.in-Err.ensures.full c.in-Err.ensures.absent)

pub invariant_of-self-2 : goal.invariant_of-self-2
invariant_of-self-2 c =
    push-invariant c.self.inside.texts c.self.inside.lists c.self.inside.limit c.self.invariant c.args.list c.args.name (rw (← c.self.view_is) at c.requires.list) (rw (← c.self.view_is) at c.requires.name)
    c.intern.new.self c.in-Ok.ensures.values c.intern.ensures.first c.args.limit c.intern.ensures.limit (rw (← c.self.view_is) at c.requires.limit)

pub returns-clause-ok : goal.returns-clause-ok
returns-clause-ok c =
    rw (← c.self.view_is) (push-ok c.self.inside.texts c.self.inside.lists c.self.inside.limit c.self.invariant c.args.list c.args.name (rw (← c.self.view_is) at c.requires.list) (rw (← c.self.view_is) at c.requires.name)
    c.intern.new.self c.in-Ok.ensures.values c.intern.ensures.first c.in-Ok.number c.in-Ok.ensures.ok)

pub returns-clause-grows : goal.returns-clause-grows
returns-clause-grows c =
    rw (← c.self.view_is) (push-grows c.self.inside.texts c.self.inside.lists c.self.inside.limit c.self.invariant c.args.list c.args.name (rw (← c.self.view_is) at c.requires.list) (rw (← c.self.view_is) at c.requires.name)
    c.intern.new.self c.in-Ok.ensures.values c.intern.ensures.first)

pub returns-clause-limit : goal.returns-clause-limit
returns-clause-limit c =
    rw (← c.self.view_is) (push-limits c.self.inside.texts c.self.inside.lists c.self.inside.limit c.self.invariant c.args.list c.args.name (rw (← c.self.view_is) at c.requires.list) (rw (← c.self.view_is) at c.requires.name)
    c.intern.new.self c.in-Ok.ensures.values c.intern.ensures.first c.args.limit c.intern.ensures.limit)
