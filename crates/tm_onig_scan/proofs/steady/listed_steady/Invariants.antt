use Rattle.std.proofs.Common.{◌≡◌, drop}
use Rattle.tm_onig_scan.specs.Winner.{trees_of, patterns_at}
use Rattle.tm_onig_scan.specs.Steady.{all_steady}
use Rattle.tm_onig_scan.proofs.steady.listed_steady.Given as goal

abbrev pub invariant-loop-place : goal.invariant-loop-place
invariant-loop-place l = l.steady ≡ all_steady (drop l.place (patterns_at (trees_of l.programs) l.numbers))
