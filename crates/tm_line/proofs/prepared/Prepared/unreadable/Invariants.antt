use Rattle.tm_line_lint.proofs.Listed.{AreListedTo}
use Rattle.tm_line.proofs.prepared.Prepared.unreadable.Given as goal

abbrev pub invariant-loop-n : goal.invariant-loop-n
invariant-loop-n l = AreListedTo l.self l.n l.found.items
