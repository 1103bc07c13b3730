use Rattle.std.proofs.Common.{drop}
use Rattle.tm_onig_scan.specs.Asked.{subject_in, trees_in}
use Rattle.tm_onig_scan.specs.Pass.{pass_row}
use Rattle.tm_onig_scan.specs.Winner.{patterns_at}
use Rattle.tm_onig_scan.proofs.Tried.{IsPassing}
use Rattle.tm_onig_scan.proofs.passes.try_row.Given as goal

abbrev pub invariant-loop-at : goal.invariant-loop-at
invariant-loop-at l =
    let rest = pass_row (subject_in l.job) l.start (patterns_at (trees_in l.job) l.numbers) in
    IsPassing (rest l.row) (rest (drop l.at l.row)) l.fn.budget l.budget
