use Rattle.tm_onig_class.specs.Tree.{tree_of}
use Rattle.tm_onig_vm.proofs.Sought.{Seeks}
use Rattle.tm_onig_vm.proofs.program.find.Given as goal

abbrev pub invariant-loop-start : goal.invariant-loop-start
invariant-loop-start l = Seeks (tree_of l.prog) l.line l.from l.allow_a l.allow_g l.fn.budget l.budget l.start
