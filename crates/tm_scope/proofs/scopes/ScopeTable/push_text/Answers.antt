use Rattle.tm_scope.proofs.PushedText.{then-ok, then-grows, then-absent, then-full}
use Rattle.tm_scope.proofs.scopes.ScopeTable.push_text.Goals as goal

pub returns-clause-ok : goal.returns-clause-ok
returns-clause-ok c =
    then-ok c.args.self.now c.text_within.new.self c.args.list c.in-Ok.name c.args.text.now c.requires.list c.text_within.ensures.grows c.in-Ok.ensures.ok c.push_within.result c.push_within.new.self c.push_within.ensures.ok

pub returns-clause-grows : goal.returns-clause-grows
returns-clause-grows c =
    then-grows c.args.self.now c.text_within.new.self c.args.list c.in-Ok.name c.args.text.now c.requires.list c.text_within.ensures.grows c.in-Ok.ensures.ok c.push_within.new.self c.push_within.ensures.grows

pub returns-clause-absent : goal.returns-clause-absent
returns-clause-absent c =
    then-absent c.args.self.now c.text_within.new.self c.args.list c.in-Ok.name c.args.text.now c.requires.list c.text_within.ensures.grows c.in-Ok.ensures.ok c.push_within.result c.push_within.ensures.absent

pub returns-clause-full : goal.returns-clause-full
returns-clause-full c =
    then-full c.args.self.now c.text_within.new.self c.args.list c.in-Ok.name c.args.text.now c.requires.list c.text_within.ensures.grows c.in-Ok.ensures.ok c.args.limit c.push_within.result c.push_within.new.self c.push_within.ensures.full
