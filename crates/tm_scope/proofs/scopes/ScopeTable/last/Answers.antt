use Rattle.std.proofs.Common.{◌∙◌, ap, get_or, []}
use Rattle.std.proofs.lemmas.Option.{get_or_from_slice_get}
use Rattle.tm_scope.proofs.Closed.{link-within, link-parts, link-in_range, link-before}
use Rattle.tm_scope.proofs.scopes.ScopeTable.last.Goals as goal

pub returns-then-list-eq0-clause-parts : goal.returns-then-list-eq0-clause-parts
returns-then-list-eq0-clause-parts c =
    ap (λ n. get_or c.args.self.now.paths n []) c.if-list-eq0.true ∙ get_or_from_slice_get c.args.self.now.paths 0 [] [] c.prove_known.ensures.numbering.empty_path

pub value-link-requires-clause-to : goal.value-link-requires-clause-to
value-link-requires-clause-to c =
    link-within c.self.inside.texts c.self.inside.lists c.self.inside.limit c.self.invariant c.args.list.0 (rw (← c.self.view_is) at c.requires)

pub returns-clause-parts : goal.returns-clause-parts
returns-clause-parts c =
    rw (← c.self.view_is) (link-parts c.self.inside.texts c.self.inside.lists c.self.inside.limit c.self.invariant c.args.list.0 c.value-link.result.now c.if-list-eq0.false c.value-link.ensures)

pub returns-clause-in_range : goal.returns-clause-in_range
returns-clause-in_range c =
    rw (← c.self.view_is) (link-in_range c.self.inside.texts c.self.inside.lists c.self.inside.limit c.self.invariant c.args.list.0 c.value-link.result.now c.if-list-eq0.false (rw (← c.self.view_is) at c.requires) c.value-link.ensures)

pub returns-clause-before : goal.returns-clause-before
returns-clause-before c =
    link-before c.self.inside.texts c.self.inside.lists c.self.inside.limit c.self.invariant c.args.list.0 c.value-link.result.now c.if-list-eq0.false c.value-link.ensures
