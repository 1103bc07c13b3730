use Rattle.std.proofs.Common.{◌≡◌, ◌++◌, drop}
use Rattle.tm_rules.specs.Rules.{rules_in_captures, rules_in_items, rules_in_names}
use Rattle.tm_rules.specs.Tree.{captures_of, items_of, names_of}
use Rattle.tm_rules.proofs.walk.+walk.Given as goal

abbrev pub invariant-walk_captures-loop-i : goal.invariant-walk_captures-loop-i
invariant-walk_captures-loop-i l = record {
  scopes : l.walk.scopes.items ≡ l.fn.walk.scopes.items;
  rules : l.walk.rules.items ++ rules_in_captures l.home.loaded.now l.home.grammar.now l.fn.walk.scopes.items l.number (captures_of (drop l.i l.all))
      ≡ l.fn.walk.rules.items ++ rules_in_captures l.home.loaded.now l.home.grammar.now l.fn.walk.scopes.items l.from (captures_of l.all);
}

abbrev pub invariant-walk_items-loop-i : goal.invariant-walk_items-loop-i
invariant-walk_items-loop-i l = record {
  scopes : l.walk.scopes.items ≡ l.fn.walk.scopes.items;
  rules : l.walk.rules.items ++ rules_in_items l.home.loaded.now l.home.grammar.now l.fn.walk.scopes.items l.number (items_of (drop l.i l.all))
      ≡ l.fn.walk.rules.items ++ rules_in_items l.home.loaded.now l.home.grammar.now l.fn.walk.scopes.items l.from (items_of l.all);
}

abbrev pub invariant-walk_names-loop-i : goal.invariant-walk_names-loop-i
invariant-walk_names-loop-i l = record {
  scopes : l.walk.scopes.items ≡ l.fn.walk.scopes.items;
  rules : l.walk.rules.items ++ rules_in_names l.home.loaded.now l.home.grammar.now l.fn.walk.scopes.items l.number (names_of (drop l.i l.names))
      ≡ l.fn.walk.rules.items ++ rules_in_names l.home.loaded.now l.home.grammar.now l.fn.walk.scopes.items l.from (names_of l.names);
}
