use Rattle.std.proofs.Common.{ℕ, ◌-◌, List, ◌∷◌, get_or, ap, reverse, ◌∙◌, arith}
use Rattle.tm_onig_vm.specs.inner.Machine.{at_pc}
use Rattle.tm_onig_vm.specs.inner.Threads.{plains, numbers_of}
use Rattle.tm_onig_vm.proofs.Stacked.{each_more}
use Rattle.tm_onig_vm.proofs.trail.go_to_each.Goals as goal

pub loop-i-preserved : goal.loop-i-preserved
loop-i-preserved c = record {
  ways = λ caps.
      each_more (λ p. at_pc p (numbers_of c.args.trail.now) c.args.pos caps) c.args.targets.now c.loop-i.i _ _ _ (omega arith) (omega arith) (c.loop-i.invariant.ways caps)
      (c.in_ok-go.ensures.ways caps ∙ ap (λ (ns : List ℕ). at_pc (get_or c.args.targets.now (c.loop-i.i - 1) 0) (reverse ns) c.args.pos caps ∷ plains c.loop-i.trail caps) c.loop-i.invariant.numbers);
  kept = λ caps. c.in_ok-go.ensures.kept caps ∙ c.loop-i.invariant.kept caps;
  numbers = c.in_ok-go.ensures.numbers ∙ c.loop-i.invariant.numbers;
}
