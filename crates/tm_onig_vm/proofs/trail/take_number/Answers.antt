use Rattle.std.proofs.Common.{refl, sym}
use Rattle.tm_onig_vm.proofs.Stacked.{same_on, same_kept, put_on, put_kept, taken_on, taken_kept, mark_more, put_again}
use Rattle.tm_onig_vm.proofs.trail.take_number.Goals as goal

pub returns-in_default-clause-ways : goal.returns-in_default-clause-ways
returns-in_default-clause-ways c = same_on c.args.trail.now _ refl c.in_default.ensures.items

pub returns-in_default-clause-kept : goal.returns-in_default-clause-kept
returns-in_default-clause-kept c = same_kept c.args.trail.now _ refl

pub returns-in-Some-Put-clause-ways : goal.returns-in-Some-Put-clause-ways
returns-in-Some-Put-clause-ways c = λ caps.
    sym (put_on _ c.args.trail.now c.in-Some.number (rw c.in-Some-Put.field-0-is at c.in-Some-Put.ensures.items) c.in-Some.ensures.items caps)

pub returns-in-Some-Put-clause-kept : goal.returns-in-Some-Put-clause-kept
returns-in-Some-Put-clause-kept c = λ caps. sym (put_kept _ c.args.trail.now (rw c.in-Some-Put.field-0-is at c.in-Some-Put.ensures.items) caps)

pub returns-in_ok-push-in-Some-pop-2-clause-ways : goal.returns-in_ok-push-in-Some-pop-2-clause-ways
returns-in_ok-push-in-Some-pop-2-clause-ways c =
    taken_on c.args.trail.now _ c.in-Some.number (put_again c.args.trail.now.marks.items _ _ _ _ _ c.in-Some-pop.ensures.items c.in_ok-push-in-Some-pop.ensures.items c.in_ok-push-in-Some-pop-2.ensures.items) c.in-Some.ensures.items

pub returns-in_ok-push-in-Some-pop-2-clause-kept : goal.returns-in_ok-push-in-Some-pop-2-clause-kept
returns-in_ok-push-in-Some-pop-2-clause-kept c =
    taken_kept c.args.trail.now _ c.in-Some.number (put_again c.args.trail.now.marks.items _ _ _ _ _ c.in-Some-pop.ensures.items c.in_ok-push-in-Some-pop.ensures.items c.in_ok-push-in-Some-pop-2.ensures.items)

pub returns-in_ok-push-in-None-clause-ways : goal.returns-in_ok-push-in-None-clause-ways
returns-in_ok-push-in-None-clause-ways c =
    taken_on c.args.trail.now _ c.in-Some.number (mark_more c.args.trail.now.marks.items _ _ _ c.in-None.ensures.items c.in_ok-push-in-None.ensures.items) c.in-Some.ensures.items

pub returns-in_ok-push-in-None-clause-kept : goal.returns-in_ok-push-in-None-clause-kept
returns-in_ok-push-in-None-clause-kept c =
    taken_kept c.args.trail.now _ c.in-Some.number (mark_more c.args.trail.now.marks.items _ _ _ c.in-None.ensures.items c.in_ok-push-in-None.ensures.items)
