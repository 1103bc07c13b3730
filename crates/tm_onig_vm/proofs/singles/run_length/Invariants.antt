use Rattle.std.proofs.Common.{◌≡◌, ◌+◌, ◌-◌, drop}
use Rattle.tm_onig_vm.specs.inner.Single.{single_has, run_of, most_of}
use Rattle.tm_onig_vm.proofs.singles.run_length.Given as goal

abbrev pub invariant-loop-i : goal.invariant-loop-i
invariant-loop-i l =
    run_of (single_has l.single) (most_of l.fn.greatest l.line) (drop l.pos l.line)
    ≡ l.i + run_of (single_has l.single) (most_of l.fn.greatest l.line - l.i) (drop (l.pos + l.i) l.line)
