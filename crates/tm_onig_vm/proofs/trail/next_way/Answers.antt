use Rattle.std.proofs.Common.{refl, sym, ◌+◌, ◌-◌, ◌∙◌, arith}
use Rattle.tm_onig_vm.specs.declared.trail.Trail.{Trail}
use Rattle.std.proofs.lemmas.List.{nil_from_length}
use Rattle.tm_onig_vm.proofs.Stacked.{way_on, way_kept, each_kept, each_taken, each_over, group_on, group_kept, put_back, put_kept, taken_on, taken_kept, none_on, none_kept, drop-popped}
use Rattle.tm_onig_vm.proofs.trail.next_way.Goals as goal

pub returns-in-Way-clause-ways : goal.returns-in-Way-clause-ways
returns-in-Way-clause-ways c = sym c.marks.invariant.ways ∙ way_on _ c.marks.trail c.in-Way.way (rw c.in-Way.is at c.in-Some.ensures.items) refl c.marks.caps

pub returns-in-Way-clause-kept : goal.returns-in-Way-clause-kept
returns-in-Way-clause-kept c = sym (way_kept _ c.marks.trail c.in-Way.way (rw c.in-Way.is at c.in-Some.ensures.items) c.marks.caps) ∙ c.marks.invariant.kept

pub returns-then-count-gt0-clause-ways : goal.returns-then-count-gt0-clause-ways
returns-then-count-gt0-clause-ways c =
    let popped : Trail = record { marks = c.pop.new.self; numbers = c.marks.trail.numbers } in
    each_taken c.marks.trail popped _ c.in-Each.pc c.in-Each.lowest c.in-Each.count (c.in-Each.lowest + (c.in-Each.count - 1)) _ c.marks.caps (rw c.in-Each.is at c.in-Some.ensures.items) refl (omega arith) refl c.marks.invariant.ways
    (c.in_ok-go_from_each-in-Each.ensures.ways c.marks.caps) c.in_ok-go_from_each-in-Each.ensures.numbers

pub returns-then-count-gt0-clause-kept : goal.returns-then-count-gt0-clause-kept
returns-then-count-gt0-clause-kept c =
    c.in_ok-go_from_each-in-Each.ensures.kept c.marks.caps ∙ sym (each_kept _ c.marks.trail _ _ _ (rw c.in-Each.is at c.in-Some.ensures.items) c.marks.caps) ∙ c.marks.invariant.kept

pub marks-preserved-else-count-gt0 : goal.marks-preserved-else-count-gt0
marks-preserved-else-count-gt0 c =
    let top = rw c.in-Each.is at c.in-Some.ensures.items in
    record {
      ways = sym (each_over c.marks.trail _ c.in-Each.pc c.in-Each.lowest c.in-Each.count c.marks.caps top refl (omega arith)) ∙ c.marks.invariant.ways;
      kept = sym (each_kept _ c.marks.trail _ _ _ top c.marks.caps) ∙ c.marks.invariant.kept;
    }

pub marks-preserved-in-Group : goal.marks-preserved-in-Group
marks-preserved-in-Group c =
    let top = rw c.in-Group.is at c.in-Some.ensures.items in
    record {
      ways = rw c.set_group.ensures (sym (group_on _ c.marks.trail c.in-Group.number c.in-Group.was top refl c.marks.caps) ∙ c.marks.invariant.ways);
      kept = rw c.set_group.ensures (sym (group_kept _ c.marks.trail c.in-Group.number c.in-Group.was top c.marks.caps) ∙ c.marks.invariant.kept);
    }

pub marks-preserved-in-Put : goal.marks-preserved-in-Put
marks-preserved-in-Put c =
    let top = rw c.in-Put.is at c.in-Some.ensures.items in
    let numbers = drop-popped c.marks.trail.numbers.items c.pop-number.new.self.items c.pop-number.result _ _ c.marks.trail.numbers.ok.0 c.pop-number.new.self.ok.0 c.pop-number.ensures.items c.pop-number.ensures.cases in
    record {
      ways = put_back c.marks.trail _ (sym top) numbers c.marks.caps ∙ c.marks.invariant.ways;
      kept = sym (put_kept _ c.marks.trail top c.marks.caps) ∙ c.marks.invariant.kept;
    }

pub marks-preserved : goal.marks-preserved
marks-preserved c =
    let top = rw c.in-Taken.is at c.in-Some.ensures.items in
    record {
      ways = sym (taken_on _ c.marks.trail c.in-Taken.number top c.in_ok-push-in-Taken.ensures.items c.marks.caps) ∙ c.marks.invariant.ways;
      kept = sym (taken_kept _ c.marks.trail c.in-Taken.number top c.marks.caps) ∙ c.marks.invariant.kept;
    }

pub returns-clause-ways : goal.returns-clause-ways
returns-clause-ways c =
    sym c.marks.invariant.ways ∙ none_on c.marks.trail (nil_from_length _ (sym c.marks.trail.marks.ok.0 ∙ c.in_default.ensures.cases.0)) c.marks.caps

pub returns-clause-kept : goal.returns-clause-kept
returns-clause-kept c =
    none_kept _ (nil_from_length _ (sym c.pop.new.self.ok.0 ∙ c.in_default.ensures.cases.1)) c.marks.caps
    ∙ sym (none_kept c.marks.trail (nil_from_length _ (sym c.marks.trail.marks.ok.0 ∙ c.in_default.ensures.cases.0)) c.marks.caps)
    ∙ c.marks.invariant.kept
