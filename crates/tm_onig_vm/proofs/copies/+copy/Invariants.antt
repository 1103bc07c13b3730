use Rattle.std.proofs.Common.{◌≡◌, map, take}
use Rattle.tm_onig_class.specs.Tree.{tree_of}
use Rattle.tm_onig_vm.proofs.copies.+copy.Given as goal

abbrev pub invariant-copy_all-loop-i : goal.invariant-copy_all-loop-i
invariant-copy_all-loop-i l = map tree_of l.copies.items ≡ map tree_of (take l.i l.parts)
