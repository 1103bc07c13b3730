-- What a greedy loop over one character leaves on the trail.
use Rattle.std.proofs.Common.{◌≡◌, ℕ, suc, ◌+◌, ◌*◌, ◌-◌, ◌<◌, ◌≤◌, ◌==◌, Bool, true, false, List, ◌∷◌, ◌++◌, Option, None, slice_get, cond, reverse, sym, ap, ap₂, ◌∙◌, subst, arith}
use Rattle.std.specs.Prelude.{not, if◌then◌else◌}
use Rattle.tm_onig_search.specs.Outcomes.{Caps}
use Rattle.std.proofs.lemmas.Bool.Decides.{nat_tests}
use Rattle.tm_onig_search.specs.Places.{Subject, passes}
use Rattle.tm_onig_search.specs.Search.{is_at}
use Rattle.tm_onig_vm.specs.inner.Single.{single_has}
use Rattle.tm_onig_vm.specs.declared.singles.Single.{Single}
use Rattle.tm_onig_vm.specs.declared.code.Instr.TheVariants as I
use Rattle.tm_onig_vm.specs.declared.machine.Acted.{Acted}
use Rattle.tm_onig_vm.specs.declared.trail.Way.{Way}
use Rattle.tm_onig_vm.specs.declared.trail.Trail.{Trail}
use Rattle.tm_onig_vm.specs.declared.machine.Acted.TheVariants as A
use Rattle.tm_onig_vm.specs.inner.Machine.{Thread as Plain, at_pc, from_each, Did, span_of, goes_for, peek_of, exec}
use Rattle.tm_onig_vm.specs.inner.Threads.{plains, numbers_of, Does, Acts}
use Rattle.tm_onig_vm.proofs.Stacked.{each_first, each_none}

module _ (s : Subject) (line : List ℕ) (one : Single) (ahead negative goes found : Bool) (cost next pos : ℕ) (trail : Trail) (caps : Caps) (acted : Acted)
    (does : Does (goes_for cost goes (at_pc next (numbers_of trail) pos caps)) acted pos trail caps trail caps) where
  abbrev next_one : Plain
  next_one = at_pc next (numbers_of trail) pos caps

  abbrev Leaves : Did → Type 0
  Leaves did = Does did acted pos trail caps trail caps

  found_so : (n m : ℕ) → goes ≡ (if negative then not found else found) → cost ≡ (if found then n else m) → Leaves (peek_of (if found then n else m) negative found next_one)
  found_so n m goes_is cost_is =
      subst (λ (g : Bool). Leaves (goes_for (cond found n m) g next_one)) goes_is (subst (λ (paid : ℕ). Leaves (goes_for paid goes next_one)) cost_is does)

  -- a look ahead at one character
  pub peek_ahead : goes ≡ (if negative then not found else found) → cost ≡ (if found then 3 else 2) → ahead ≡ true → s.line ≡ line → found ≡ passes (single_has one) (slice_get line pos) →
      Acts s (I.Peek one ahead negative next) pos trail caps trail caps acted
  unfolding exec
  peek_ahead goes_is cost_is on same found_is =
      let here = subst (λ (f : Bool). Leaves (peek_of (cond f 3 2) negative f next_one)) found_is (found_so 3 2 goes_is cost_is) in
      let there = subst (λ (l : List ℕ). Leaves (peek_of (cond (passes (single_has one) (slice_get l pos)) 3 2) negative (passes (single_has one) (slice_get l pos)) next_one)) (sym same) here in
      subst (λ (a : Bool). Acts s (I.Peek one a negative next) pos trail caps trail caps acted) (sym on) there

  -- a look at the character before
  pub peek_back : goes ≡ (if negative then not found else found) → cost ≡ (if found then 4 else 2) → ahead ≡ false → 0 < pos → s.line ≡ line → found ≡ passes (single_has one) (slice_get line (pos - 1)) →
      Acts s (I.Peek one ahead negative next) pos trail caps trail caps acted
  unfolding exec
  peek_back goes_is cost_is back later same found_is =
      let not_first : (pos == 0) ≡ false = grind (arith, nat_tests) in
      let here = subst (λ (f : Bool). Leaves (peek_of (cond f 4 2) negative f next_one)) found_is (found_so 4 2 goes_is cost_is) in
      let there = subst (λ (l : List ℕ). Leaves (peek_of (cond (passes (single_has one) (slice_get l (pos - 1))) 4 2) negative (passes (single_has one) (slice_get l (pos - 1))) next_one)) (sym same) here in
      let behind = subst (λ (z : Bool). let f = passes (single_has one) (cond z None (slice_get s.line (pos - 1))) in Leaves (peek_of (cond z 1 (cond f 4 2)) negative f next_one)) (sym not_first) there in
      subst (λ (a : Bool). Acts s (I.Peek one a negative next) pos trail caps trail caps acted) (sym back) behind

  -- a look-behind where nothing stands before
  pub peek_none : goes ≡ (if negative then not false else false) → cost ≡ 1 → ahead ≡ false → pos ≡ 0 → Acts s (I.Peek one ahead negative next) pos trail caps trail caps acted
  unfolding exec
  peek_none goes_is cost_is back at =
      let first : (pos == 0) ≡ true = grind (arith, nat_tests) in
      let here = subst (λ (g : Bool). Leaves (goes_for 1 g next_one)) goes_is (subst (λ (paid : ℕ). Leaves (goes_for paid goes next_one)) cost_is does) in
      let behind = subst (λ (z : Bool). let f = passes (single_has one) (cond z None (slice_get s.line (pos - 1))) in Leaves (peek_of (cond z 1 (cond f 4 2)) negative f next_one)) (sym first) here in
      subst (λ (a : Bool). Acts s (I.Peek one a negative next) pos trail caps trail caps acted) (sym back) behind

module _ (k least : ℕ) (greatest : Option ℕ) (next pos cost last : ℕ) (caps : Caps) (old : Trail) (last_is : last ≡ (if is_at k greatest then 0 else 1)) (cost_is : cost ≡ 1 + 3 * k + last) where
  paid : cost ≡ 1 + 3 * k + (if is_at k greatest then 0 else 1)
  paid = cost_is ∙ ap (λ (n : ℕ). 1 + 3 * k + n) last_is

  pub span_fails : k < least → Does (span_of k least greatest next (numbers_of old) pos caps) (A.Costs cost) pos old caps old caps
  span_fails few =
      let none : k + 1 - least ≡ 0 = omega arith in
      (paid, ap (λ (ts : List Plain). ts ++ plains old caps) (sym (each_none next (numbers_of old) caps (pos + least) (k + 1 - least) none)), omega arith)

  pub span_goes : (way : Way) (new : Trail) → least ≤ k → way.pc ≡ next → way.pos ≡ pos + k → plains new caps ≡ from_each next (numbers_of old) caps (pos + least) (k - least) ++ plains old caps → new.numbers.items ≡ old.numbers.items →
      Does (span_of k least greatest next (numbers_of old) pos caps) (A.Goes cost way) pos old caps new caps
  span_goes way new enough pc_is pos_is ways numbers =
      let more : k + 1 - least ≡ suc (k - least) = omega arith in
      let at : pos + k ≡ pos + least + (k - least) = omega arith in (
        paid,
        ap (λ (ts : List Plain). at_pc way.pc (numbers_of new) way.pos caps ∷ ts) ways
            ∙ ap₂ (λ (ns : List ℕ) (q : ℕ). at_pc way.pc (reverse ns) q caps ∷ from_each next (numbers_of old) caps (pos + least) (k - least) ++ plains old caps) numbers (pos_is ∙ at)
            ∙ ap (λ (p : ℕ). at_pc p (numbers_of old) (pos + least + (k - least)) caps ∷ from_each next (numbers_of old) caps (pos + least) (k - least) ++ plains old caps) pc_is
            ∙ ap (λ (ts : List Plain). ts ++ plains old caps) (sym (each_first next (numbers_of old) caps (pos + least) (k + 1 - least) (k - least) more)),
        omega arith,
      )
