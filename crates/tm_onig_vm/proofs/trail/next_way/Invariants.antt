use Rattle.std.proofs.Common.{◌≡◌, vec_len}
use Rattle.tm_onig_vm.specs.inner.Threads.{plains, groups_under}
use Rattle.tm_onig_vm.proofs.trail.next_way.Given as goal

abbrev pub invariant-marks : goal.invariant-marks
invariant-marks l = record {
  ways : plains l.trail l.caps ≡ plains l.fn.trail l.fn.caps;
  kept : groups_under l.trail l.caps ≡ groups_under l.fn.trail l.fn.caps;
}

abbrev pub decreases-marks : goal.decreases-marks
decreases-marks l = vec_len l.trail.marks
