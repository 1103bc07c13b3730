use Rattle.std.proofs.Common.{take}
use Rattle.tm_onig_vm.proofs.Stacked.{Keeps}
use Rattle.tm_onig_vm.proofs.trail.keep_groups.Given as goal

abbrev pub invariant-loop-i : goal.invariant-loop-i
invariant-loop-i l = Keeps l.fn.trail l.trail (take l.i l.done.marks.items)
