use Rattle.std.proofs.Common.{◌≡◌, ◌-◌, ◌≤◌}
use Rattle.tm_onig_search.specs.Outcomes.{Outcome}
use Rattle.tm_onig_vm.specs.inner.Anchors.{subject_of}
use Rattle.tm_onig_vm.specs.inner.Machine.{AllMean}
use Rattle.tm_onig_vm.specs.inner.Threads.{groups_under, now_threads}
use Rattle.tm_onig_vm.proofs.Runs.{Runs}
use Rattle.tm_onig_vm.proofs.running.+run.Given as goal

abbrev pub decreases-run : goal.decreases-run
decreases-run l = l.budget.now

abbrev pub invariant-steps : goal.invariant-steps
invariant-steps l = record {
  runs : (o : Outcome) → AllMean (subject_of l.reads.line.now l.reads.anchors) l.reads.code.now (now_threads l.fn.first l.fn.trail l.fn.caps) o →
      Runs (subject_of l.reads.line.now l.reads.anchors) l.reads.code.now o (l.fn.budget - l.left) (now_threads l.now l.trail l.caps);
  falls : l.left ≤ l.fn.budget;
  same : l.budget ≡ l.fn.budget;
  kept : groups_under l.trail l.caps ≡ groups_under l.fn.trail l.fn.caps;
}

abbrev pub decreases-steps : goal.decreases-steps
decreases-steps l = l.left
