use Rattle.tm_line_lint.proofs.Listed.{AreListedTo}
use Rattle.tm_line_lint.proofs.unreadable_with.Given as goal

abbrev pub invariant-loop-n : goal.invariant-loop-n
invariant-loop-n l = AreListedTo l.rules l.n l.found.items
