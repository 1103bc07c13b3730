use Rattle.std.proofs.Common.{◌≡◌, Option, ℕ, map, drop}
use Rattle.tm_onig_class.specs.Tree.{tree_of, trees}
use Rattle.tm_onig_search.specs.Starts.{may_start_row, may_start_any}
use Rattle.tm_onig_vm.specs.First.{in_first}
use Rattle.tm_onig_vm.proofs.first.+start.Given as goal

abbrev pub invariant-start_row-loop-i : goal.invariant-start_row-loop-i
invariant-start_row-loop-i l = (next : Option ℕ) → in_first l.row next ≡ may_start_row l.behind next (trees (map tree_of (drop l.i l.parts))) (in_first l.fn.rest next)

abbrev pub invariant-start_any-loop-i : goal.invariant-start_any-loop-i
invariant-start_any-loop-i l = (next : Option ℕ) → in_first l.any next ≡ may_start_any l.behind next (trees (map tree_of (drop l.i l.parts))) (in_first l.rest next)
