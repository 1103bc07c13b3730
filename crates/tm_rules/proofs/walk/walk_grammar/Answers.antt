use Rattle.std.proofs.Common.{List, [], ◌∷◌, ◌++◌, ap, ◌∙◌}
use Rattle.tm_rules.specs.Includes.{Entries}
use Rattle.tm_rules.proofs.Walked.{grammar-walked}
use Rattle.tm_rules.proofs.walk.walk_grammar.Goals as goal

pub returns-clause-rules : goal.returns-clause-rules
returns-clause-rules c =
    let home = c.args.home.now in
    grammar-walked home.loaded.now home.grammar.now c.args.raw.now c.in-Some.inside c.in-Some-next.injections c.push.new.self.items c.in-Some-first_numbers.numbers c.in_ok-names.names
    c.args.walk.now.rules.items c.push_own.new.walk.rules.items c.walk_names.new.walk.rules.items c.walk_rule.new.walk.rules.items
    c.in-Some.ensures
    c.in-Some-next.ensures
    (rw c.root.ensures at c.in-Some-first_numbers.ensures)
    (rw (c.as_slice.ensures, c.root-2.ensures) at c.in_ok-names.ensures)
    (c.in_ok-push.ensures.items ∙ ap (λ (es : List Entries). es ++ c.in_ok-names.names ∷ []) c.requires)
    (rw c.root-3.ensures at c.in_ok-push_own.ensures.rules)
    (rw (c.in_ok-push_own.ensures.scopes, c.injections.ensures) at c.in_ok-walk_names.ensures.rules)
    (rw (c.clear.ensures.items, c.root-4.ensures) at c.in_ok-walk_rule.ensures.rules)
