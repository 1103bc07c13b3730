use Rattle.std.proofs.Common.{◌≡◌, drop}
use Rattle.tm_onig_scan.specs.Winner.{trees_of}
use Rattle.tm_onig_scan.specs.Steady.{all_steady}
use Rattle.tm_onig_scan.proofs.steady.all_steady.Given as goal

abbrev pub invariant-loop-number : goal.invariant-loop-number
invariant-loop-number l = l.steady ≡ all_steady (drop l.number (trees_of l.programs))
