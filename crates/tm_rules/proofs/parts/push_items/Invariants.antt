use Rattle.std.proofs.Common.{◌≡◌, ◌++◌, drop}
use Rattle.tm_rules.specs.Rules.{numbers_from}
use Rattle.tm_rules.specs.Tree.{items_of}
use Rattle.tm_rules.proofs.parts.push_items.Given as goal

abbrev pub invariant-loop-i : goal.invariant-loop-i
invariant-loop-i l = l.numbers.items ++ numbers_from l.home.loaded.now l.home.grammar.now l.scopes l.number (items_of (drop l.i l.items)) ≡ l.fn.numbers.items ++ numbers_from l.home.loaded.now l.home.grammar.now l.scopes l.first (items_of l.items)
