use Rattle.std.proofs.Common.{◌≤◌}
use Rattle.tm_rules.proofs.only_lists.room_behind.Given as goal

abbrev pub invariant-loop-number : goal.invariant-loop-number
invariant-loop-number l = l.left ≤ l.room
