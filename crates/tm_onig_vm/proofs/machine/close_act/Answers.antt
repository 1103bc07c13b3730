use Rattle.std.proofs.Common.{List, ◌∷◌, ap, ap₂, refl, ◌∙◌, arith}
use Rattle.tm_onig_search.specs.Outcomes.{Caps}
use Rattle.tm_onig_vm.specs.inner.Machine.{Thread, at_pc, exec}
use Rattle.tm_onig_vm.specs.inner.Threads.{plains, numbers_of, groups_under}
use Rattle.tm_onig_vm.proofs.Stacked.{group_on, group_kept, set_back}
use Rattle.tm_onig_vm.proofs.machine.close_act.Goals as goal

pub returns-in_ok-push-in-Some-clause-does : goal.returns-in_ok-push-in-Some-clause-does
unfolding exec
returns-in_ok-push-in-Some-clause-does c = λ s.
    let numbers = rw c.in-Some.is at c.in_ok-take_number.ensures.numbers in
    let back = set_back c.args.caps.now c.set_group.new.caps c.args.number _ c.group_at-was.result c.set_group.ensures c.group_at-was.ensures in
    let below = group_on c.take_number.new.trail _ c.args.number c.group_at-was.result c.in_ok-push-in-Some.ensures.items refl c.set_group.new.caps
    ∙ ap (plains c.take_number.new.trail) back ∙ c.in_ok-take_number.ensures.ways c.args.caps.now in
    rw numbers (
      refl,
      ap₂ (λ (cs : Caps) (ts : List Thread). at_pc c.args.next (numbers_of c.take_number.new.trail) c.args.pos cs ∷ ts) c.set_group.ensures below,
      omega arith,
    )

pub returns-in_ok-push-in-Some-clause-kept : goal.returns-in_ok-push-in-Some-clause-kept
returns-in_ok-push-in-Some-clause-kept c =
    let back = set_back c.args.caps.now c.set_group.new.caps c.args.number _ c.group_at-was.result c.set_group.ensures c.group_at-was.ensures in
    group_kept c.take_number.new.trail _ c.args.number c.group_at-was.result c.in_ok-push-in-Some.ensures.items c.set_group.new.caps
    ∙ ap (groups_under c.take_number.new.trail) back
    ∙ c.in_ok-take_number.ensures.kept c.args.caps.now
