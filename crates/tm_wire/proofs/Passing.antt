-- Queues that are made, cut into two ends and put together again: each move keeps the rule.
use Rattle.std.proofs.Common.{◌≡◌, ◌≢◌, ℕ, zero, suc, true, false, true≢false, List, [], ◌∷◌, ◌++◌, length, set, sym, refl, ap, ◌∙◌, subst, ⊎_elim}
use Rattle.std.specs.List.{All}
use Rattle.std.proofs.lemmas.List.Elements.{All-nil}
use mathlib.Core.Option.{some, some-injective, some-ne-none}
use lib.ListN.{get_elem?}
use Rattle.crossbeam_queue.specs.Fifo.{Forks, Merges, Learns}
use Rattle.crossbeam_queue.proofs.Lists.{at_set, at_snoc}
use Rattle.tm_wire.specs.declared.log.Log.{Log}
use Rattle.tm_wire.specs.Passed.{log, AgreesOnPushes, AgreesOnPops, Passed}
use Rattle.tm_wire.specs.inner.Moves.{Each, each_set}

no_items : {X : Type 0} (gone items : List X) → [] ≡ gone ++ items → items ≡ []
no_items [] items e = sym e
no_items (x ∷ gone) items e = cc

module _ {X S : Type 0} where
  at_end : (l : List (Log X S)) (a b : Log X S) (j : ℕ) → get_elem? l j ≢ some b → get_elem? (l ++ a ∷ []) j ≡ some b → j ≡ length l
  at_end [] a b zero n e = refl
  at_end [] a b (suc j) n e = absurd (some-ne-none b (sym e))
  at_end (x ∷ xs) a b zero n e = absurd (n e)
  at_end (x ∷ xs) a b (suc j) n e = ap suc (at_end xs a b j n e)

  each_one : (F : ℕ → Log X S → Type 0) (w : Log X S) → F 0 w → Each F (w ∷ [])
  each_one F w mine zero u e = let same : w ≡ u = some-injective w u e in subst (λ (y : Log X S). F 0 y) same mine
  each_one F w mine (suc j) u e = absurd (some-ne-none u (sym e))

  pub begins : (fit : S → X → Type 0) (known : S) → All (fit known) [] → Passed fit [] (log true true known [] [] ∷ [])
  begins fit known none = record {
    writer = 0;
    reader = 0;
    known = known;
    pushed = [];
    popped = [];
    adds_up = refl;
    all_fit = none;
    pushing = each_one (AgreesOnPushes 0 known []) _ (λ _. (refl, refl, refl));
    popping = each_one (AgreesOnPops 0 known []) _ (λ _. (refl, refl, refl));
  }

  abbrev NoPart : ℕ → Log X S → Type 0
  NoPart j u = (u.pushes ≢ true) × (u.pops ≢ true)

  -- the one pass of a new queue is cut in two, which know the same
  pub forks : (fit : S → X → Type 0) (port : ℕ) (v : Log X S) (known : S) → v.pushes ≡ true → v.pops ≡ true → v.pushed ≡ []
      → Forks (Passed fit) port v (log true false known [] []) (log false true known [] [])
  forks fit port v known a b none items views h at =
      let l : Log X S = log true false known [] [] in let r : Log X S = log false true known [] [] in
      let w = h.pushing port v at a in let m = h.popping port v at b in
      let vs : List (Log X S) = set views port l in
      let empty : items ≡ [] = no_items h.popped items (sym none ∙ w.2 ∙ h.adds_up) in
      let alone : (j : ℕ) (u : Log X S) → j ≢ port → get_elem? views j ≡ some u → NoPart j u =
      λ j u other e. ((λ p. other ((h.pushing j u e p).0 ∙ sym w.0)), λ p. other ((h.popping j u e p).0 ∙ sym m.0)) in
      let lefts : Each (λ j u. AgreesOnPushes port known [] j u × (u.pops ≢ true)) vs =
      each_set (λ j u. AgreesOnPushes port known [] j u × (u.pops ≢ true)) views port l ((λ _. (refl, refl, refl)), λ p. true≢false (sym p))
      (λ j u other e. ((λ p. absurd ((alone j u other e).0 p)), (alone j u other e).1)) in
      record {
        writer = port;
        reader = length vs;
        known = known;
        pushed = [];
        popped = [];
        adds_up = sym empty;
        all_fit = All-nil (fit known);
        pushing = λ j u e. ⊎_elim (λ x. (lefts j u x).0)
            (λ (is : r ≡ u). λ p. absurd (true≢false (sym (ap (λ (y : Log X S). y.pushes) is ∙ p)))) (at_snoc vs r u j e);
        popping = λ j u e. ⊎_elim (λ x. λ p. absurd ((lefts j u x).1 p))
            (λ (is : r ≡ u). λ p. (at_end vs r u j (λ x. (lefts j u x).1 p) e, ap (λ (y : Log X S). y.known) (sym is), ap (λ (y : Log X S). y.popped) (sym is))) (at_snoc vs r u j e);
      }

  -- the two passes are one again
  pub merges : (fit : S → X → Type 0) (port : ℕ) (v : Log X S) (other : ℕ) (u : Log X S) (none : S) → v.pushes ≡ true → u.pops ≡ true
      → Merges (Passed fit) port v other u (log true true v.known v.pushed u.popped) (log false false none [] [])
  merges fit port v other u none a b items views h at two at' =
      let both : Log X S = log true true v.known v.pushed u.popped in let spent : Log X S = log false false none [] [] in
      let w = h.pushing port v at a in let vs : List (Log X S) = set views port both in
      let was : get_elem? views other ≡ some u = ⊎_elim (λ x. absurd (two x.0)) (λ x. x.1) (at_set views port other both u at') in
      let m = h.popping other u was b in
      let fits = h.all_fit in
      let Pops : ℕ → Log X S → Type 0 = λ j y. j ≢ other → AgreesOnPops port h.known h.popped j y in
      let popping : Each Pops vs = each_set Pops views port both (λ _ _. (refl, w.1, m.2))
      (λ j y _ e apart p. absurd (apart ((h.popping j y e p).0 ∙ sym m.0))) in
      let pushing : Each (AgreesOnPushes h.writer h.known h.pushed) vs = each_set (AgreesOnPushes h.writer h.known h.pushed) views port both (λ _. w)
      (λ j y _ e. h.pushing j y e) in
      record {
        writer = h.writer;
        reader = port;
        known = h.known;
        pushed = h.pushed;
        popped = h.popped;
        adds_up = h.adds_up;
        all_fit = h.all_fit;
        pushing = each_set (AgreesOnPushes h.writer h.known h.pushed) vs other spent (λ p. absurd (true≢false (sym p))) (λ j y _ e. pushing j y e);
        popping = each_set (AgreesOnPops port h.known h.popped) vs other spent (λ p. absurd (true≢false (sym p))) (λ j y apart e. popping j y e apart);
      }

  pub totals : (fit : S → X → Type 0) (port : ℕ) (v : Log X S) → v.pushes ≡ true → v.pops ≡ true → Learns (Passed fit) port v (λ items. v.pushed ≡ v.popped ++ items)
  totals fit port v a b items views h at = (h.pushing port v at a).2 ∙ h.adds_up ∙ ap (λ l. l ++ items) (sym (h.popping port v at b).2)
