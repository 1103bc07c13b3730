use Rattle.std.proofs.Common.{◌≡◌, ◌+◌, drop}
use Rattle.tm_rules.specs.Sizes.{captures_size, items_size, names_size}
use Rattle.tm_rules.specs.Tree.{captures_of, items_of, names_of}
use Rattle.tm_rules.proofs.sizes.+sizes.Given as goal

abbrev pub invariant-behind_captures-loop-i : goal.invariant-behind_captures-loop-i
invariant-behind_captures-loop-i l = l.behind + captures_size (captures_of (drop l.i l.all)) ≡ l.from + captures_size (captures_of l.all)

abbrev pub invariant-behind_items-loop-i : goal.invariant-behind_items-loop-i
invariant-behind_items-loop-i l = l.behind + items_size (items_of (drop l.i l.all)) ≡ l.from + items_size (items_of l.all)

abbrev pub invariant-behind_names-loop-i : goal.invariant-behind_names-loop-i
invariant-behind_names-loop-i l = l.behind + names_size (names_of (drop l.i l.names)) ≡ l.from + names_size (names_of l.names)
