use Rattle.std.proofs.Common.{refl, ◌∙◌, arith}
use Rattle.tm_onig_vm.specs.inner.Machine.{exec}
use Rattle.tm_onig_vm.proofs.Stacked.{began, none_kept}
use Rattle.tm_onig_vm.proofs.machine.act.Goals as goal

pub returns-in_ok-go_to_each-in-Choice-clause-does : goal.returns-in_ok-go_to_each-in-Choice-clause-does
unfolding exec
returns-in_ok-go_to_each-in-Choice-clause-does c = rw c.in-Choice.is (refl, rw c.as_slice.ensures at (c.in_ok-go_to_each-in-Choice.ensures.ways c.args.caps.now), omega arith)

pub returns-in_ok-go-in-Ahead-clause-does : goal.returns-in_ok-go-in-Ahead-clause-does
unfolding exec
returns-in_ok-go-in-Ahead-clause-does c =
    rw c.in-Ahead.is (
      began c.blank_trail-inner.result _ c.in-Ahead.body c.args.pos c.args.caps.now c.blank_trail-inner.ensures.marks c.blank_trail-inner.ensures.numbers (c.in_ok-go-in-Ahead.ensures.ways c.args.caps.now),
      c.in_ok-go-in-Ahead.ensures.kept c.args.caps.now ∙ none_kept c.blank_trail-inner.result c.blank_trail-inner.ensures.marks c.args.caps.now,
      refl,
      refl,
      refl,
      refl,
    )
