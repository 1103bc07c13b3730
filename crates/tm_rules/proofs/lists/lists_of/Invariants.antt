use Rattle.tm_rules.specs.inner.Made.{AreListed}
use Rattle.tm_rules.proofs.lists.lists_of.Given as goal

abbrev pub invariant-loop-i : goal.invariant-loop-i
invariant-loop-i l = AreListed l.rules l.lists.items l.i
