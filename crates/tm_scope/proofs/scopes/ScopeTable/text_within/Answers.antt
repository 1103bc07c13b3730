use Rattle.tm_scope.proofs.MoreTexts.{text-full, text-invariant, text-grows, text-limits}
use Rattle.tm_scope.proofs.scopes.ScopeTable.text_within.Goals as goal

pub returns-in-Err-clause-full : goal.returns-in-Err-clause-full
returns-in-Err-clause-full c =
    rw (c.in-Err.ensures.err) (text-full c.self.inside.texts c.self.inside.texts c.self.inside.lists c.self.inside.limit c.self.invariant c.args.text.now c.args.limit c.in-Err.fault c.in-Err.ensures.full c.in-Err.ensures.absent)

pub invariant_of-self-2 : goal.invariant_of-self-2
invariant_of-self-2 c =
    text-invariant c.self.inside.texts c.intern_text.new.texts c.self.inside.lists c.self.inside.limit c.self.invariant c.args.text.now c.in-Ok.ensures.values c.intern_text.ensures.first
    c.args.limit c.intern_text.ensures.limit (rw (← c.self.view_is) at c.requires)

pub returns-clause-grows : goal.returns-clause-grows
returns-clause-grows c =
    rw (← c.self.view_is) (text-grows c.self.inside.texts c.intern_text.new.texts c.self.inside.lists c.self.inside.limit c.self.invariant c.args.text.now c.in-Ok.ensures.values c.intern_text.ensures.first)

pub returns-clause-limit : goal.returns-clause-limit
returns-clause-limit c =
    rw (← c.self.view_is) (text-limits c.self.inside.texts c.intern_text.new.texts c.self.inside.lists c.self.inside.limit c.self.invariant c.args.text.now c.in-Ok.ensures.values c.intern_text.ensures.first
    c.args.limit c.intern_text.ensures.limit)
