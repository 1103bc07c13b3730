use Rattle.std.proofs.Common.{map, drop, take}
use Rattle.tm_onig_class.specs.Tree.{tree_of, trees}
use Rattle.tm_onig_vm.specs.inner.Size.{code_sizes}
use Rattle.tm_onig_vm.specs.inner.Code.{RowCode, AnyCode, Grows, Adds}
use Rattle.tm_onig_vm.proofs.code.+emit.Given as goal

abbrev pub invariant-emit_any-loop-i : goal.invariant-emit_any-loop-i
invariant-emit_any-loop-i l = record {
  more : Grows l.fn.code.items l.code.items;
  here : AnyCode l.code.items (trees (map tree_of (take l.i l.parts))) l.targets.items l.next;
  size : Adds l.fn.code.items l.code.items (code_sizes (trees (map tree_of (take l.i l.parts))));
}

abbrev pub invariant-emit_row-loop-i : goal.invariant-emit_row-loop-i
invariant-emit_row-loop-i l = record {
  more : Grows l.fn.code.items l.code.items;
  here : RowCode l.code.items (trees (map tree_of (drop l.i l.parts))) l.pc l.next;
  size : Adds l.fn.code.items l.code.items (code_sizes (trees (map tree_of (drop l.i l.parts))));
}
