use Rattle.std.proofs.Common.{drop}
use Rattle.tm_onig_scan.specs.Asked.{subject_in, trees_in}
use Rattle.tm_onig_scan.specs.Pass.{pass_here}
use Rattle.tm_onig_scan.proofs.Tried.{IsPassing}
use Rattle.tm_onig_scan.proofs.passes.try_all.Given as goal

abbrev pub invariant-loop-number : goal.invariant-loop-number
invariant-loop-number l =
    let here = pass_here (subject_in l.job) l.at.start in
    IsPassing (here 0 (trees_in l.job)) (here l.number (drop l.number (trees_in l.job))) l.fn.budget l.budget
