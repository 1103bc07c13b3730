use Rattle.tm_line.proofs.Insides.{IsMaking}
use Rattle.tm_line.proofs.prepared.insides_of.Given as goal

abbrev pub invariant-loop-n : goal.invariant-loop-n
invariant-loop-n l = IsMaking l.rules l.n l.insides.items
