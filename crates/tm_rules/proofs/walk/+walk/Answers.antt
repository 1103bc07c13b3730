use Rattle.std.proofs.Common.{◌≡◌, ◌+◌, true, false, sym, ◌∙◌, arith}
use Rattle.tm_rules.specs.Sizes.{has_patterns}
use Rattle.tm_rules.specs.Tree.{tree_of}
use Rattle.tm_rules.proofs.Walked.{walked}
use Rattle.tm_rules.proofs.walk.+walk.Goals as goal

pub walk_capture-returns-in_ok-walk_rule-clause-rules :
    goal.walk_capture-returns-in_ok-walk_rule-clause-rules
walk_capture-returns-in_ok-walk_rule-clause-rules t c =
    let has : has_patterns (tree_of c.args.raw.now) ≡ true = sym c.has_patterns.ensures ∙ c.if-has_patterns.true in
    let inside : c.in-Some-next.inside ≡ c.args.from + 1 = c.in-Some-next.ensures in
    rw (has, ← inside) c.in_ok-walk_rule.ensures.rules

pub walk_capture-returns-in_ok-walk_rule-2-clause-rules :
    goal.walk_capture-returns-in_ok-walk_rule-2-clause-rules
walk_capture-returns-in_ok-walk_rule-2-clause-rules t c =
    let has : has_patterns (tree_of c.args.raw.now) ≡ false = sym c.has_patterns.ensures ∙ c.if-has_patterns.false in
    let same : c.args.from + 0 ≡ c.args.from = omega arith in
    rw (has, same) c.in_ok-walk_rule-2.ensures.rules

pub walk_rule-returns-clause-rules : goal.walk_rule-returns-clause-rules
walk_rule-returns-clause-rules t c =
    walked c.args.home.now.loaded.now c.args.home.now.grammar.now c.args.walk.now.scopes.items c.args.from c.args.raw.now
    c.args.is_rule c.push.new.self.items c.in-Some.numbers c.in_ok-names.names c.args.walk.now.rules.items c.push_own.new.walk.rules.items c.walk_parts.new.walk.rules.items
    c.in-Some.ensures
    (rw c.as_slice.ensures at c.in_ok-names.ensures)
    c.in_ok-push.ensures.items
    c.in_ok-push_own.ensures.rules
    (rw c.in_ok-push_own.ensures.scopes at c.in_ok-walk_parts.ensures.rules)
