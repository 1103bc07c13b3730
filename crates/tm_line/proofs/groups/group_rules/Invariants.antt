use Rattle.std.proofs.Common.{◌≡◌, map, take}
use Rattle.tm_line.specs.Groups.{group_rule}
use Rattle.tm_line.proofs.groups.group_rules.Given as goal

abbrev pub invariant-loop-capture : goal.invariant-loop-capture
invariant-loop-capture l = l.rules.items ≡ map group_rule (take l.capture-index l.captures)
