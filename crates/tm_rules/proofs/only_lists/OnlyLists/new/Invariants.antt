use Rattle.std.proofs.Common.{◌≡◌, length}
use Rattle.tm_rules.proofs.only_lists.OnlyLists.new.Given as goal

abbrev pub invariant-loop-rule : goal.invariant-loop-rule
invariant-loop-rule l = length l.lists.items ≡ l._rule-index
