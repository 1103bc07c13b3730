use Rattle.std.proofs.Common.{◌≡◌, ◌++◌}
use Rattle.tm_rules.proofs.parts.in_order.Given as goal

abbrev pub invariant-loop-capture : goal.invariant-loop-capture
invariant-loop-capture l = l.list.items ++ l.capture-iterator ≡ l.initial.capture-iterator
