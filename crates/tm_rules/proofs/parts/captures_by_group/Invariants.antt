use Rattle.std.proofs.Common.{◌≡◌, [], drop}
use Rattle.tm_rules.specs.Rules.{captures_after}
use Rattle.tm_rules.specs.Tree.{captures_of}
use Rattle.tm_rules.proofs.parts.captures_by_group.Given as goal

abbrev pub invariant-loop-i : goal.invariant-loop-i
invariant-loop-i l = captures_after l.by_group.entries l.number (captures_of (drop l.i l.captures)) ≡ captures_after [] l.first (captures_of l.captures)
