use Rattle.tm_onig_scan.proofs.Rows.{AreBefore}
use Rattle.tm_onig_scan.proofs.passes.count_before.Given as goal

abbrev pub invariant-loop-count : goal.invariant-loop-count
invariant-loop-count l = AreBefore l.place l.count l.row
