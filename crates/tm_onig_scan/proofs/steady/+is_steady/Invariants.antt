use Rattle.std.proofs.Common.{◌≡◌, map, drop}
use Rattle.tm_onig_class.specs.Tree.{tree_of, trees}
use Rattle.tm_onig_scan.specs.Steady.{are_steady}
use Rattle.tm_onig_scan.proofs.steady.+is_steady.Given as goal

abbrev pub invariant-are_steady-loop-i : goal.invariant-are_steady-loop-i
invariant-are_steady-loop-i l = l.steady ≡ are_steady (trees (map tree_of (drop l.i l.parts)))
