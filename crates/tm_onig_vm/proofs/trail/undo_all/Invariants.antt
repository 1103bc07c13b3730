use Rattle.std.proofs.Common.{◌≡◌, [], vec_len}
use Rattle.tm_onig_vm.specs.inner.Threads.{groups_under}
use Rattle.tm_onig_vm.proofs.trail.undo_all.Given as goal

abbrev pub invariant-marks : goal.invariant-marks
invariant-marks l = record {
  groups : groups_under l.trail l.caps ≡ groups_under l.fn.trail l.fn.caps;
  numbers : l.trail.numbers.items ≡ [];
}

abbrev pub decreases-marks : goal.decreases-marks
decreases-marks l = vec_len l.trail.marks
