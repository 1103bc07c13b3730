use Rattle.std.proofs.Common.{◌≡◌, ◌<◌, ◌≤◌, ◌+◌, List, length, take, ap, ◌∙◌, sym, subst, refl, reverse, arith}
use Rattle.std.proofs.lemmas.List.{take_all}
use Rattle.tm_onig_vm.specs.declared.trail.Mark.{Mark}
use Rattle.tm_onig_vm.specs.declared.trail.Trail.{Trail}
use Rattle.tm_onig_vm.specs.inner.Threads.{plains, undone, groups_under}
use Rattle.tm_onig_vm.proofs.Stacked.{Keeps, keeps_none, keeps_group, keeps_over, way_says, each_says, put_says, taken_says}
use Rattle.tm_onig_vm.proofs.trail.keep_groups.Goals as goal
use Rattle.tm_onig_vm.proofs.trail.keep_groups.Goals.{in-Group+in_ok-push-in-Group, in-Way, in-Each, in-Put, in-Taken}

pub loop-i-init : goal.loop-i-init
loop-i-init c = keeps_none c.args.trail.now

pub loop-i-preserved : goal.loop-i-preserved
loop-i-preserved c =
    let marks = c.args.done.now.marks.items in
    let mark = c.index-mark.result.now in
    let inside = c.loop-i-test.true in
    let long : c.len-i-end.result ≡ length marks = c.len-i-end.ensures ∙ c.args.done.now.marks.ok.0 in
    let low : c.loop-i.i < length marks = omega arith in
    let over = keeps_over c.args.trail.now c.loop-i.trail marks c.loop-i.i mark low c.index-mark.ensures c.loop-i.invariant in
    elim c.match-mark.branch [
      | in-Group+in_ok-push-in-Group w ↦
          subst (λ (t : Trail). Keeps c.args.trail.now t (take (c.loop-i.i + 1) marks)) (sym w.trail-is)
          (keeps_group c.args.trail.now c.loop-i.trail marks c.loop-i.i mark low c.index-mark.ensures c.loop-i.invariant _ _ _ w.in-Group.is w.in_ok-push-in-Group.ensures.items refl)
      | in-Way w ↦ subst (λ (t : Trail). Keeps c.args.trail.now t (take (c.loop-i.i + 1) marks)) (sym w.trail-is) (over (rw w.in-Way.is (way_says _)))
      | in-Each w ↦ subst (λ (t : Trail). Keeps c.args.trail.now t (take (c.loop-i.i + 1) marks)) (sym w.trail-is) (over (rw w.in-Each.is (each_says _ _ _)))
      | in-Put w ↦ subst (λ (t : Trail). Keeps c.args.trail.now t (take (c.loop-i.i + 1) marks)) (sym w.trail-is) (over (rw w.in-Put.is put_says))
      | in-Taken w ↦ subst (λ (t : Trail). Keeps c.args.trail.now t (take (c.loop-i.i + 1) marks)) (sym w.trail-is) (over (rw w.in-Taken.is (taken_says _)))
    ]

pub returns-clause-ways : goal.returns-clause-ways
unfolding groups_under
returns-clause-ways c = λ caps.
    let past = c.loop-i-test.false in
    let long : c.len-i-end.result ≡ length c.args.done.now.marks.items = c.len-i-end.ensures ∙ c.args.done.now.marks.ok.0 in
    let high : length c.args.done.now.marks.items ≤ c.loop-i.i = omega arith in
    let all : take c.loop-i.i c.args.done.now.marks.items ≡ c.args.done.now.marks.items = take_all _ _ high in
    c.loop-i.invariant.ways caps ∙ ap (λ (ms : List Mark). plains c.args.trail.now (undone (reverse ms) caps)) all

pub returns-clause-kept : goal.returns-clause-kept
unfolding groups_under
returns-clause-kept c = λ caps.
    let past = c.loop-i-test.false in
    let long : c.len-i-end.result ≡ length c.args.done.now.marks.items = c.len-i-end.ensures ∙ c.args.done.now.marks.ok.0 in
    let high : length c.args.done.now.marks.items ≤ c.loop-i.i = omega arith in
    let all : take c.loop-i.i c.args.done.now.marks.items ≡ c.args.done.now.marks.items = take_all _ _ high in
    c.loop-i.invariant.kept caps ∙ ap (λ (ms : List Mark). groups_under c.args.trail.now (undone (reverse ms) caps)) all
