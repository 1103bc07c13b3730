use Rattle.std.proofs.Common.{◌≡◌, ℕ, ◌-◌, ◌+◌, ◌<◌, ◌≤◌, ◌++◌, Option, List, length, Some, slice_get, refl, sym, ap, ◌∙◌, subst, arith}
use Rattle.std.proofs.lemmas.Option.{slice_get_read, slice_get_past}
use Rattle.tm_onig_search.specs.Outcomes.{Outcome}
use Rattle.tm_onig_search.specs.Places.{Subject}
use Rattle.tm_onig_vm.specs.inner.Anchors.{subject_of}
use Rattle.tm_onig_vm.specs.declared.trail.Way.{Way}
use Rattle.tm_onig_vm.specs.declared.machine.Waiting.{Waiting}
use Rattle.tm_onig_vm.specs.declared.machine.Acted.{Acted}
use Rattle.tm_onig_vm.specs.declared.machine.Acted.TheVariants as A
use Rattle.tm_onig_vm.specs.inner.Machine.{Thread, AllMean, resumed_threads}
use Rattle.tm_onig_vm.specs.inner.Threads.{plain, plains, numbers_of, groups_under, hit_at, now_threads, Acts}
use Rattle.tm_onig_vm.proofs.Runs.{Runs, run_costs}
use Rattle.tm_onig_vm.proofs.Turns.{top_within, has_code, Awaits, next_is, after_costs, after_goes, after_success, after_waits}
use Rattle.tm_onig_vm.proofs.running.+run.Goals as goal
use Rattle.tm_onig_vm.proofs.running.+run.Goals.{In_ok-end}

module _ (t : ℕ) (c : In_ok-end t) where
  abbrev s : Subject
  s = subject_of c.args.reads.now.line.now c.args.reads.now.anchors

  abbrev spent : ℕ
  spent = c.args.budget.now - c.steps.left

  abbrev Meant : Outcome → Type 0
  Meant o = AllMean s c.args.reads.now.code.now (now_threads c.args.first c.args.trail.now c.args.caps.now) o

  abbrev Leaves : Acted → Type 0
  Leaves acted = Acts s c.in-Some-get.instr.now c.in-Some.way.pos c.steps.trail c.steps.caps c.act.new.trail c.act.new.caps acted

  read : slice_get c.args.reads.now.code.now c.in-Some.way.pc ≡ Some c.in-Some-get.instr.now
  read = slice_get_read c.args.reads.now.code.now (length c.args.reads.now.code.now) c.in-Some.way.pc c.in-Some-get.instr.now refl c.in-Some-get.ensures.lookup.3.0 c.in-Some-get.ensures.lookup.1

  costed : (o : Outcome) → Meant o → (cost : ℕ) → Leaves (A.Costs cost) → Runs s c.args.reads.now.code.now o (spent + cost) (plains c.act.new.trail c.act.new.caps) × (0 < cost)
  costed o mean cost acted =
      after_costs s c.args.reads.now.code.now c.requires.small o spent (now_threads c.steps.now c.steps.trail c.steps.caps) c.in-Some.way c.steps.trail c.steps.caps (c.steps.invariant.runs o mean)
      (ap (λ (n : Option Way). now_threads n c.steps.trail c.steps.caps) c.in-Some.is) c.in-Some-get.instr.now read c.act.new.trail c.act.new.caps cost acted

  gone : (o : Outcome) → Meant o → (cost : ℕ) (on : Way) → Leaves (A.Goes cost on) → Runs s c.args.reads.now.code.now o (spent + cost) (now_threads (Some on) c.act.new.trail c.act.new.caps) × (0 < cost)
  gone o mean cost on acted =
      after_goes s c.args.reads.now.code.now c.requires.small o spent (now_threads c.steps.now c.steps.trail c.steps.caps) c.in-Some.way c.steps.trail c.steps.caps (c.steps.invariant.runs o mean)
      (ap (λ (n : Option Way). now_threads n c.steps.trail c.steps.caps) c.in-Some.is) c.in-Some-get.instr.now read c.act.new.trail c.act.new.caps cost on acted

  succeeded : (o : Outcome) → Meant o → (end : ℕ) → Leaves (A.Succeeds end) → (o.hit ≡ Some (hit_at c.act.new.caps end)) × (o.cost ≡ spent + 1)
  succeeded o mean end acted =
      after_success s c.args.reads.now.code.now c.requires.small o spent (now_threads c.steps.now c.steps.trail c.steps.caps) c.in-Some.way c.steps.trail c.steps.caps (c.steps.invariant.runs o mean)
      (ap (λ (n : Option Way). now_threads n c.steps.trail c.steps.caps) c.in-Some.is) c.in-Some-get.instr.now read c.act.new.trail c.act.new.caps end acted

  waited : (o : Outcome) → Meant o → (w : Waiting) → Leaves (A.Waits w) → Awaits s c.args.reads.now.code.now o spent w (numbers_of c.act.new.trail) c.act.new.caps (plains c.act.new.trail c.act.new.caps)
  waited o mean w acted =
      after_waits s c.args.reads.now.code.now c.requires.small o spent (now_threads c.steps.now c.steps.trail c.steps.caps) c.in-Some.way c.steps.trail c.steps.caps (c.steps.invariant.runs o mean)
      (ap (λ (n : Option Way). now_threads n c.steps.trail c.steps.caps) c.in-Some.is) c.in-Some-get.instr.now read c.act.new.trail c.act.new.caps w acted

  waited_cost : (o : Outcome) (mean : Meant o) (w : Waiting) (acted : Leaves (A.Waits w)) → spent + 1 + (waited o mean w acted).alone.cost ≤ o.cost
  waited_cost o mean w acted =
      let a = waited o mean w acted in
      run_costs s c.args.reads.now.code.now o (spent + 1 + a.alone.cost) (resumed_threads w.negative w.stays a.alone.hit (plain w.rest (numbers_of c.act.new.trail) c.act.new.caps) ++ plains c.act.new.trail c.act.new.caps) a.on

  -- the groups so far are those that the run began with, when all is undone
  kept : groups_under c.act.new.trail c.act.new.caps ≡ groups_under c.args.trail.now c.args.caps.now
  kept = c.in_ok-end.ensures.kept ∙ c.steps.invariant.kept

pub returns-in_default-get-clause-hit : goal.returns-in_default-get-clause-hit
returns-in_default-get-clause-hit t c = λ o mean.
    absurd (has_code (subject_of c.args.reads.now.line.now c.args.reads.now.anchors) c.args.reads.now.code.now c.requires.small o (c.args.budget.now - c.steps.left) _ c.in-Some.way c.steps.trail c.steps.caps
    (c.steps.invariant.runs o mean) (ap (λ (n : Option Way). now_threads n c.steps.trail c.steps.caps) c.in-Some.is) (slice_get_past c.args.reads.now.code.now c.in-Some.way.pc c.in_default-get.ensures.lookup.3))

pub returns-in_default-get-clause-cost : goal.returns-in_default-get-clause-cost
returns-in_default-get-clause-cost t c = λ o mean.
    absurd (has_code (subject_of c.args.reads.now.line.now c.args.reads.now.anchors) c.args.reads.now.code.now c.requires.small o (c.args.budget.now - c.steps.left) _ c.in-Some.way c.steps.trail c.steps.caps
    (c.steps.invariant.runs o mean) (ap (λ (n : Option Way). now_threads n c.steps.trail c.steps.caps) c.in-Some.is) (slice_get_past c.args.reads.now.code.now c.in-Some.way.pc c.in_default-get.ensures.lookup.3))

pub act-requires-clause-within : goal.act-requires-clause-within
act-requires-clause-within t c =
    top_within (subject_of c.args.reads.now.line.now c.args.reads.now.anchors) c.args.reads.now.code.now c.requires.small c.requires.stands.0 (c.args.budget.now - c.steps.left) _ c.in-Some.way c.steps.trail c.steps.caps
    (c.steps.invariant.runs c.requires.stands.0 c.requires.stands.1) (ap (λ (n : Option Way). now_threads n c.steps.trail c.steps.caps) c.in-Some.is)

pub returns-then-left-eq0-clause-over : goal.returns-then-left-eq0-clause-over
returns-then-left-eq0-clause-over t c = λ o mean _.
    let r = (goal.at.returns-then-left-eq0-clause-over t c).In_ok-end in
    let done = (succeeded t r o mean c.in-Succeeds.end (rw c.in-Succeeds.is at c.in_ok-end.ensures.does)).1 in
    let none = c.if-left-eq0.true in omega arith

pub returns-in-Succeeds-clause-hit : goal.returns-in-Succeeds-clause-hit
returns-in-Succeeds-clause-hit t c = λ o mean.
    let r = (goal.at.returns-in-Succeeds-clause-hit t c).In_ok-end in
    sym (succeeded t r o mean c.in-Succeeds.end (rw c.in-Succeeds.is at c.in_ok-end.ensures.does)).0

pub returns-in-Succeeds-clause-cost : goal.returns-in-Succeeds-clause-cost
returns-in-Succeeds-clause-cost t c = λ o mean.
    let r = (goal.at.returns-in-Succeeds-clause-cost t c).In_ok-end in
    let done = (succeeded t r o mean c.in-Succeeds.end (rw c.in-Succeeds.is at c.in_ok-end.ensures.does)).1 in
    let some = c.if-left-eq0.false in let falls = c.steps.invariant.falls in let same = c.steps.invariant.same in omega arith

pub returns-in-Succeeds-clause-falls : goal.returns-in-Succeeds-clause-falls
returns-in-Succeeds-clause-falls t c = λ o mean.
    let r = (goal.at.returns-in-Succeeds-clause-falls t c).In_ok-end in
    let done = (succeeded t r o mean c.in-Succeeds.end (rw c.in-Succeeds.is at c.in_ok-end.ensures.does)).1 in
    let some = c.if-left-eq0.false in let falls = c.steps.invariant.falls in let same = c.steps.invariant.same in (omega arith, omega arith)

pub returns-then-left-cost-clause-over : goal.returns-then-left-cost-clause-over
returns-then-left-cost-clause-over t c = λ o mean _.
    let r = (goal.at.returns-then-left-cost-clause-over t c).In_ok-end in
    let on = costed t r o mean c.in-Costs.cost (rw c.in-Costs.is at c.in_ok-end.ensures.does) in
    let more = run_costs (s t r) c.args.reads.now.code.now o (spent t r + c.in-Costs.cost) (plains c.act.new.trail c.act.new.caps) on.0 in
    let less = c.if-left-cost.true in let falls = c.steps.invariant.falls in let same = c.steps.invariant.same in omega arith

pub steps-preserved-in-Costs : goal.steps-preserved-in-Costs
steps-preserved-in-Costs t c =
    let r = (goal.at.steps-preserved-in-Costs t c).In_ok-end in
    let enough = c.if-left-cost.false in
    let falls = c.steps.invariant.falls in
    let e : spent t r + c.in-Costs.cost ≡ c.args.budget.now - (c.steps.left - c.in-Costs.cost) = omega arith in
    let next = next_is c.in_ok-now-in-Costs.now (plains c.act.new.trail c.act.new.caps) c.next_way.new.trail c.next_way.new.caps c.in_ok-now-in-Costs.ensures.ways in
    record {
      runs = λ o mean.
          subst (λ (ts : List Thread). Runs (s t r) c.args.reads.now.code.now o (c.args.budget.now - (c.steps.left - c.in-Costs.cost)) ts) next
          (subst (λ (n : ℕ). Runs (s t r) c.args.reads.now.code.now o n (plains c.act.new.trail c.act.new.caps)) e (costed t r o mean c.in-Costs.cost (rw c.in-Costs.is at c.in_ok-end.ensures.does)).0);
      falls = omega arith;
      same = c.steps.invariant.same;
      kept = c.in_ok-now-in-Costs.ensures.kept ∙ kept t r;
    }

pub steps-preserved-in-Goes : goal.steps-preserved-in-Goes
steps-preserved-in-Goes t c =
    let r = (goal.at.steps-preserved-in-Goes t c).In_ok-end in
    let enough = c.if-left-cost-2.false in
    let falls = c.steps.invariant.falls in
    let e : spent t r + c.in-Goes.cost ≡ c.args.budget.now - (c.steps.left - c.in-Goes.cost) = omega arith in
    record {
      runs = λ o mean.
          subst (λ (n : ℕ). Runs (s t r) c.args.reads.now.code.now o n (now_threads (Some c.in-Goes.next) c.act.new.trail c.act.new.caps)) e
          (gone t r o mean c.in-Goes.cost c.in-Goes.next (rw c.in-Goes.is at c.in_ok-end.ensures.does)).0;
      falls = omega arith;
      same = c.steps.invariant.same;
      kept = kept t r;
    }

pub returns-then-left-cost-2-clause-over : goal.returns-then-left-cost-2-clause-over
returns-then-left-cost-2-clause-over t c = λ o mean _.
    let r = (goal.at.returns-then-left-cost-2-clause-over t c).In_ok-end in
    let on = gone t r o mean c.in-Goes.cost c.in-Goes.next (rw c.in-Goes.is at c.in_ok-end.ensures.does) in
    let more = run_costs (s t r) c.args.reads.now.code.now o (spent t r + c.in-Goes.cost) (now_threads (Some c.in-Goes.next) c.act.new.trail c.act.new.caps) on.0 in
    let less = c.if-left-cost-2.true in let falls = c.steps.invariant.falls in let same = c.steps.invariant.same in omega arith

pub returns-then-left-eq0-2-clause-over : goal.returns-then-left-eq0-2-clause-over
returns-then-left-eq0-2-clause-over t c = λ o mean _.
    let r = (goal.at.returns-then-left-eq0-2-clause-over t c).In_ok-end in
    let more = waited_cost t r o mean c.in-Waits.waiting (rw c.in-Waits.is at c.in_ok-end.ensures.does) in
    let none = c.if-left-eq0-2.true in omega arith

pub run-requires : goal.run-requires
run-requires t c =
    let r = (goal.at.run-requires t c).In_ok-end in
    let w = waited t r c.requires.stands.0 c.requires.stands.1 c.in-Waits.waiting (rw c.in-Waits.is at c.in_ok-end.ensures.does) in
    let begun = next_is c.in_ok-begin-in-Waits.begin (plains c.in-Waits.waiting.inner c.act.new.caps) c.next_way-in-Waits.new.trail c.next_way-in-Waits.new.caps c.in_ok-begin-in-Waits.ensures.ways in
    let some = c.if-left-eq0-2.false in
    let falls = c.steps.invariant.falls in
    let measure = c.decreases in
    (omega arith, ((w.alone, (subst (λ (ts : List Thread). AllMean (s t r) c.args.reads.now.code.now ts w.alone) begun w.mean)), c.requires.small))

pub steps-smaller : goal.steps-smaller
steps-smaller t c =
    let r = (goal.at.steps-smaller t c).In_ok-end in
    let w = waited t r c.requires.stands.0 c.requires.stands.1 c.in-Waits.waiting (rw c.in-Waits.is at c.in_ok-end.ensures.does) in
    let begun = next_is c.in_ok-begin-in-Waits.begin (plains c.in-Waits.waiting.inner c.act.new.caps) c.next_way-in-Waits.new.trail c.next_way-in-Waits.new.caps c.in_ok-begin-in-Waits.ensures.ways in
    let fell = c.in-Ok.ensures.falls w.alone (subst (λ (ts : List Thread). AllMean (s t r) c.args.reads.now.code.now ts w.alone) begun w.mean) in
    let some = c.if-left-eq0-2.false in omega arith

pub steps-preserved : goal.steps-preserved
steps-preserved t c =
    let r = (goal.at.steps-preserved t c).In_ok-end in
    let some = c.if-left-eq0-2.false in
    let falls = c.steps.invariant.falls in
    let first = waited t r c.requires.stands.0 c.requires.stands.1 c.in-Waits.waiting (rw c.in-Waits.is at c.in_ok-end.ensures.does) in
    let begun = next_is c.in_ok-begin-in-Waits.begin (plains c.in-Waits.waiting.inner c.act.new.caps) c.next_way-in-Waits.new.trail c.next_way-in-Waits.new.caps c.in_ok-begin-in-Waits.ensures.ways in
    let fell = c.in-Ok.ensures.falls first.alone (subst (λ (ts : List Thread). AllMean (s t r) c.args.reads.now.code.now ts first.alone) begun first.mean) in
    let before : groups_under c.run.new.trail c.run.new.caps ≡ c.act.new.caps = c.in-Ok.ensures.kept ∙ c.in_ok-begin-in-Waits.ensures.kept ∙ first.same in
    let numbers = numbers_of c.act.new.trail in
    let next = next_is c.in_ok-now-in-Ok.now (plains c.resume.new.trail c.resume.new.caps) c.next_way-in-Ok.new.trail c.next_way-in-Ok.new.caps c.in_ok-now-in-Ok.ensures.ways in
    record {
      runs = λ o mean.
          let w = waited t r o mean c.in-Waits.waiting (rw c.in-Waits.is at c.in_ok-end.ensures.does) in
          let paid = c.in-Ok.ensures.cost w.alone (subst (λ (ts : List Thread). AllMean (s t r) c.args.reads.now.code.now ts w.alone) begun w.mean) in
          let hit = c.in-Ok.ensures.hit w.alone (subst (λ (ts : List Thread). AllMean (s t r) c.args.reads.now.code.now ts w.alone) begun w.mean) in
          let e : spent t r + 1 + w.alone.cost ≡ c.args.budget.now - c.run.new.budget = omega arith in
          let here : Runs (s t r) c.args.reads.now.code.now o (c.args.budget.now - c.run.new.budget) (plains c.resume.new.trail c.resume.new.caps) =
          rw (c.in_ok-resume-in-Ok.ensures.ways, before, hit) (subst (λ (n : ℕ). Runs (s t r) c.args.reads.now.code.now o n
          (resumed_threads c.in-Waits.waiting.negative c.in-Waits.waiting.stays w.alone.hit (plain c.in-Waits.waiting.rest numbers c.act.new.caps) ++ plains c.act.new.trail c.act.new.caps)) e w.on) in
          subst (λ (ts : List Thread). Runs (s t r) c.args.reads.now.code.now o (c.args.budget.now - c.run.new.budget) ts) next here;
      falls = omega arith;
      same = c.steps.invariant.same;
      kept = c.in_ok-now-in-Ok.ensures.kept ∙ c.in_ok-resume-in-Ok.ensures.kept ∙ ap (groups_under c.act.new.trail) before ∙ kept t r;
    }

pub returns-in-Err-clause-over : goal.returns-in-Err-clause-over
returns-in-Err-clause-over t c = λ o mean is.
    let r = (goal.at.returns-in-Err-clause-over t c).In_ok-end in
    let acted = rw c.in-Waits.is at c.in_ok-end.ensures.does in
    let w = waited t r o mean c.in-Waits.waiting acted in
    let more = waited_cost t r o mean c.in-Waits.waiting acted in
    let begun = next_is c.in_ok-begin-in-Waits.begin (plains c.in-Waits.waiting.inner c.act.new.caps) c.next_way-in-Waits.new.trail c.next_way-in-Waits.new.caps c.in_ok-begin-in-Waits.ensures.ways in
    let over = c.in-Err.ensures.over w.alone (subst (λ (ts : List Thread). AllMean (s t r) c.args.reads.now.code.now ts w.alone) begun w.mean) is in
    let some = c.if-left-eq0-2.false in let falls = c.steps.invariant.falls in let same = c.steps.invariant.same in omega arith
