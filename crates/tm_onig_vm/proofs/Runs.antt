-- A run of the code keeps what is left of the search.
use Rattle.std.proofs.Common.{◌≡◌, ℕ, ◌+◌, ◌<◌, ◌≤◌, Bool, true, false, List, [], ◌∷◌, ◌++◌, length, Option, Some, None, slice_get, refl, sym, ap, ◌∙◌, subst, arith}
use Rattle.std.proofs.lemmas.Option.{none-some}
use Rattle.tm_onig_search.specs.Outcomes.{Caps, Hit, Outcome, fail, spend, or_else, or_else_at, accept}
use Rattle.tm_onig_search.specs.Places.{Subject}
use Rattle.tm_onig_search.proofs.Outcomes.{or_else_assoc, or_else-fail_left, or_else-fail_right, spend-spend}
use Rattle.tm_onig_vm.specs.declared.code.Instr.{Instr}
use Rattle.tm_onig_vm.specs.inner.Machine.{Thread, Did, Succeeds, Goes, Waits, at_pc, exec, frames_rest, AllMean, WaitsFor, ActsFor, resumed, resumed_threads}
use Rattle.tm_onig_vm.proofs.Costs.{cost_same, or_else-spend, tick-spend}
use Rattle.tm_onig_vm.proofs.Instructions.{step}

or_else_cost : (a b : Outcome) → a.cost ≤ (or_else a b).cost
or_else_cost a b = go a.hit
  where
    go : (hit : Option Hit) → a.cost ≤ (or_else_at hit a.cost b).cost
    go None = omega arith
    go (Some h) = omega arith

module _ (s : Subject) (code : List Instr) where
  all_append : (xs ys : List Thread) (a b : Outcome) → AllMean s code xs a → AllMean s code ys b → AllMean s code (xs ++ ys) (or_else a b)
  all_append [] ys a b x y = subst (AllMean s code ys) (sym (or_else-fail_left b) ∙ ap (λ (o : Outcome). or_else o b) (sym x)) y
  all_append (t ∷ xs) ys a b x y =
      (x.0, or_else x.1 b, x.2, all_append xs ys x.1 b x.3 y, ap (λ (o : Outcome). or_else o b) x.4 ∙ or_else_assoc x.0 x.1 b)

  -- the threads that go on after the body alone was searched
  after_alone : (inner : List Thread) (negative stays : Bool) (rest : Thread) (o : Outcome) (w : WaitsFor s code inner negative stays rest o) →
      (left : Outcome) × AllMean s code (resumed_threads negative stays w.alone.hit rest) left × (spend w.alone.cost left ≡ resumed negative stays w.alone w.k rest.pos rest.caps)
  after_alone inner negative stays rest o w = go negative stays w.alone.hit refl
    where
      one : (at : ℕ) (cs : Caps) → at ≤ length s.line → AllMean s code (at_pc rest.pc rest.numbers at cs ∷ []) (w.k at cs)
      one at cs fits = (w.k at cs, fail, w.after at cs fits, refl, sym (or_else-fail_right (w.k at cs)))

      none : w.alone.cost + 0 ≡ w.alone.cost
      none = omega arith

      go : (negative stays : Bool) (hit : Option Hit) → w.alone.hit ≡ hit →
          (left : Outcome) × AllMean s code (resumed_threads negative stays hit rest) left
          × (spend w.alone.cost left ≡ resumed negative stays (record { hit = hit; cost = w.alone.cost }) w.k rest.pos rest.caps)
      go true stays None e = (w.k rest.pos rest.caps, one rest.pos rest.caps w.within, refl)
      go true stays (Some h) e = (fail, refl, refl)
      go false true None e = (fail, refl, cost_same None _ _ none)
      go false false None e = (fail, refl, cost_same None _ _ none)
      go false true (Some h) e = (w.k rest.pos h.caps, one rest.pos h.caps w.within, refl)
      go false false (Some h) e = (w.k h.end h.caps, one h.end h.caps (w.ends h e), refl)

  -- n cases were entered, and the threads are what is left of o
  pub record Runs (o : Outcome) (n : ℕ) (threads : List Thread) : Type 0 where
    pub rest : Outcome
    pub mean : AllMean s code threads rest
    pub total : spend n rest ≡ o

  pub run_costs : (o : Outcome) (n : ℕ) (threads : List Thread) → Runs o n threads → n ≤ o.cost
  run_costs o n threads was = let cost : n + was.rest.cost ≡ o.cost = ap (λ (x : Outcome). x.cost) was.total in omega arith

module _ (s : Subject) (code : List Instr) (small : length s.line < 0x80000000) where
  module _ (o : Outcome) (n : ℕ) (t : Thread) (ts : List Thread) (was : Runs s code o n (t ∷ ts)) where
    first : Outcome
    first = was.mean.0

    others : Outcome
    others = was.mean.1

    pub top_within : t.pos ≤ length s.line
    top_within = was.mean.2.2

    pub has_code : slice_get code t.pc ≡ None → ⊥
    has_code none =
        let means = was.mean.2 in
        let done = step s code means.0 t.pc t.numbers t.pos t.caps small means.1 means.2 in
        none-some done.0 (sym none ∙ done.1)

    whole_is : spend n (or_else was.mean.0 was.mean.1) ≡ o
    whole_is = ap (spend n) (sym was.mean.4) ∙ was.total

    module _ (i : Instr) (at : slice_get code t.pc ≡ Some i) where
      acted : (did : Did) → exec s i t.numbers t.pos t.caps ≡ did → ActsFor s code did t.pos t.caps was.mean.0
      acted did does =
          let means = was.mean.2 in
          let done = step s code means.0 t.pc t.numbers t.pos t.caps small means.1 means.2 in
          let same : done.0 ≡ i = let e = done.1 in cc in
          let here : ActsFor s code did t.pos t.caps (frames_rest s means.0 t.numbers t.pos t.caps) =
          subst (λ (d : Did). ActsFor s code d t.pos t.caps (frames_rest s means.0 t.numbers t.pos t.caps)) (ap (λ (j : Instr). exec s j t.numbers t.pos t.caps) same ∙ does) done.2 in
          subst (ActsFor s code did t.pos t.caps) (sym means.3) here

      pub run_goes : (cost : ℕ) (new : List Thread) → exec s i t.numbers t.pos t.caps ≡ Goes cost new → Runs s code o (n + cost) (new ++ ts)
      run_goes cost new does =
          let act = acted (Goes cost new) does in
          record {
            rest = or_else act.0 was.mean.1;
            mean = all_append s code new ts act.0 was.mean.1 act.1 was.mean.3;
            total =
                sym (spend-spend n cost (or_else act.0 was.mean.1)) ∙ ap (spend n) (sym (or_else-spend cost act.0 was.mean.1))
                ∙ ap (λ (x : Outcome). spend n (or_else x was.mean.1)) (sym act.2) ∙ whole_is;
          }

      pub run_succeeds : exec s i t.numbers t.pos t.caps ≡ Succeeds → (o.hit ≡ Some (record { end = t.pos; caps = t.caps })) × (o.cost ≡ n + 1)
      run_succeeds does =
          let act = acted Succeeds does in
          let whole : spend n (accept t.pos t.caps) ≡ o = ap (λ (x : Outcome). spend n (or_else x was.mean.1)) (sym act) ∙ whole_is in
          (sym (ap (λ (x : Outcome). x.hit) whole), sym (ap (λ (x : Outcome). x.cost) whole))

      module _ (inner : List Thread) (negative stays : Bool) (rest : Thread) (does : exec s i t.numbers t.pos t.caps ≡ Waits inner negative stays rest) where
        pub waits : WaitsFor s code inner negative stays rest was.mean.0
        waits = acted (Waits inner negative stays rest) does

        pub run_waited : Runs s code o (n + 1 + waits.alone.cost) (resumed_threads negative stays waits.alone.hit rest ++ ts)
        run_waited =
            let w = waits in
            let left = after_alone s code inner negative stays rest was.mean.0 w in
            record {
              rest = or_else left.0 was.mean.1;
              mean = all_append s code (resumed_threads negative stays w.alone.hit rest) ts left.0 was.mean.1 left.1 was.mean.3;
              total =
                  sym (spend-spend (n + 1) w.alone.cost (or_else left.0 was.mean.1)) ∙ sym (spend-spend n 1 (spend w.alone.cost (or_else left.0 was.mean.1)))
                  ∙ ap (λ (x : Outcome). spend n (spend 1 x)) (sym (or_else-spend w.alone.cost left.0 was.mean.1))
                  ∙ ap (λ (x : Outcome). spend n (spend 1 (or_else x was.mean.1))) left.2
                  ∙ ap (spend n) (sym (or_else-spend 1 (resumed negative stays w.alone w.k rest.pos rest.caps) was.mean.1))
                  ∙ ap (λ (x : Outcome). spend n (or_else x was.mean.1)) (sym (tick-spend (resumed negative stays w.alone w.k rest.pos rest.caps)) ∙ sym w.total)
                  ∙ whole_is;
            }
