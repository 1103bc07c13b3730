use Rattle.std.proofs.Common.{refl, sym, ◌∙◌}
use Rattle.std.proofs.lemmas.List.{nil_from_length}
use Rattle.tm_onig_vm.proofs.Stacked.{way_kept, each_kept, group_kept, put_kept, taken_kept, none_kept, same_kept}
use Rattle.tm_onig_vm.proofs.trail.undo_all.Goals as goal

pub marks-init : goal.marks-init
marks-init c = record { groups = same_kept c.args.trail.now _ refl c.args.caps.now; numbers = c.clear.ensures.items }

pub marks-preserved-in-Group : goal.marks-preserved-in-Group
marks-preserved-in-Group c =
    let top = rw c.in-Group.is at c.in-Some.ensures.items in
    record {
      groups = rw c.set_group.ensures (sym (group_kept _ c.marks.trail c.in-Group.number c.in-Group.before top c.marks.caps) ∙ c.marks.invariant.groups);
      numbers = c.marks.invariant.numbers;
    }

pub marks-preserved-in-Way : goal.marks-preserved-in-Way
marks-preserved-in-Way c =
    record { groups = sym (way_kept _ c.marks.trail _ (rw c.in-Way.is at c.in-Some.ensures.items) c.marks.caps) ∙ c.marks.invariant.groups; numbers = c.marks.invariant.numbers }

pub marks-preserved-in-Each : goal.marks-preserved-in-Each
marks-preserved-in-Each c =
    record { groups = sym (each_kept _ c.marks.trail _ _ _ (rw c.in-Each.is at c.in-Some.ensures.items) c.marks.caps) ∙ c.marks.invariant.groups; numbers = c.marks.invariant.numbers }

pub marks-preserved-in-Put : goal.marks-preserved-in-Put
marks-preserved-in-Put c =
    record { groups = sym (put_kept _ c.marks.trail (rw c.in-Put.is at c.in-Some.ensures.items) c.marks.caps) ∙ c.marks.invariant.groups; numbers = c.marks.invariant.numbers }

pub marks-preserved : goal.marks-preserved
marks-preserved c =
    record { groups = sym (taken_kept _ c.marks.trail _ (rw c.in-Taken.is at c.in-Some.ensures.items) c.marks.caps) ∙ c.marks.invariant.groups; numbers = c.marks.invariant.numbers }

pub returns-clause-groups : goal.returns-clause-groups
returns-clause-groups c =
    sym (none_kept c.marks.trail (nil_from_length _ (sym c.marks.trail.marks.ok.0 ∙ c.in_default.ensures.cases.0)) c.marks.caps) ∙ c.marks.invariant.groups
