use Rattle.std.proofs.Common.{◌≡◌, ◌++◌, map, drop}
use Rattle.tm_onig_search.specs.Outcomes.{Caps}
use Rattle.tm_onig_vm.specs.inner.Machine.{at_pc}
use Rattle.tm_onig_vm.specs.inner.Threads.{plains, numbers_of, groups_under}
use Rattle.tm_onig_vm.proofs.trail.go_to_each.Given as goal

abbrev pub invariant-loop-i : goal.invariant-loop-i
invariant-loop-i l = record {
  ways : (caps : Caps) → plains l.trail caps ≡ map (λ p. at_pc p (numbers_of l.fn.trail) l.pos caps) (drop l.i l.targets) ++ plains l.fn.trail caps;
  kept : (caps : Caps) → groups_under l.trail caps ≡ groups_under l.fn.trail caps;
  numbers : l.trail.numbers.items ≡ l.fn.trail.numbers.items;
}
