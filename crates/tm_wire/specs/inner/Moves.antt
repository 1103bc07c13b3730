-- A push of what is fit keeps the rule of a queue, and so does a pop. The laws of the rule cite these lemmas, which therefore stand here.
use Rattle.std.proofs.Common.{◌≡◌, ◌≢◌, ℕ, true, List, [], ◌∷◌, ◌++◌, set, sym, refl, ap, ◌∙◌, subst, ⊎_elim, append_assoc}
use Rattle.std.specs.List.{All}
use Rattle.std.proofs.lemmas.List.Elements.{All-head, All-tail, All-push}
use mathlib.Core.Option.{some}
use lib.ListN.{get_elem?}
use Rattle.crossbeam_queue.specs.Fifo.{Pushes, Pops}
use Rattle.crossbeam_queue.proofs.Lists.{at_set}
use Rattle.tm_wire.specs.declared.log.Log.{Log}
use Rattle.tm_wire.specs.Passed.{log, AgreesOnPushes, AgreesOnPops, Passed}

-- what stands in the middle of a list
middle : {X : Type 0} (P : X → Type 0) (before after : List X) (x : X) → All P (before ++ x ∷ after) → P x
middle P [] after x all = All-head P x after all
middle P (y ∷ before) after x all = middle P before after x (All-tail P y (before ++ x ∷ after) all)

module _ {X S : Type 0} where
  -- a fact about each pass, by its number
  abbrev pub Each : (ℕ → Log X S → Type 0) → List (Log X S) → Type 0
  Each F views = (port : ℕ) (v : Log X S) → get_elem? views port ≡ some v → F port v

  pub each_set : (F : ℕ → Log X S → Type 0) (views : List (Log X S)) (port : ℕ) (w : Log X S) → F port w
      → ((j : ℕ) (u : Log X S) → j ≢ port → get_elem? views j ≡ some u → F j u) → Each F (set views port w)
  each_set F views port w mine others j u e = ⊎_elim (λ (x : (j ≡ port) × (w ≡ u)). subst (λ (y : ℕ × Log X S). F y.0 y.1) (λ i. (sym x.0 i, x.1 i)) mine)
      (λ (x : (j ≢ port) × (get_elem? views j ≡ some u)). others j u x.0 x.1) (at_set views port j w u e)

  pub pushes : (fit : S → X → Type 0) (n port : ℕ) (v : Log X S) (x : X) → v.pushes ≡ true → fit v.known x
      → Pushes (Passed fit) n port v x (λ w. w ≡ log v.pushes v.pops v.known (v.pushed ++ x ∷ []) v.popped)
  pushes fit n port v x may fits items views _ h at =
      let w : Log X S = log v.pushes v.pops v.known (v.pushed ++ x ∷ []) v.popped in
      let mine = h.pushing port v at may in
      let pushed = h.pushed ++ x ∷ [] in (
        w,
        record {
          writer = h.writer;
          reader = h.reader;
          known = h.known;
          pushed = pushed;
          popped = h.popped;
          adds_up = ap (λ l. l ++ x ∷ []) h.adds_up ∙ append_assoc h.popped items (x ∷ []);
          all_fit = All-push (fit h.known) h.pushed x h.all_fit (subst (λ s. fit s x) mine.1 fits);
          pushing = each_set (AgreesOnPushes h.writer h.known pushed) views port w (λ _. (mine.0, mine.1, ap (λ l. l ++ x ∷ []) mine.2))
              (λ j u other e p. absurd (other ((h.pushing j u e p).0 ∙ sym mine.0)));
          popping = each_set (AgreesOnPops h.reader h.known h.popped) views port w (h.popping port v at)
              (λ j u other e. h.popping j u e);
        },
        refl,
      )

  pub pops : (fit : S → X → Type 0) (port : ℕ) (v : Log X S) → v.pops ≡ true
      → Pops (Passed fit) port v (λ x w. (w ≡ log v.pushes v.pops v.known v.pushed (v.popped ++ x ∷ [])) × fit v.known x)
  pops fit port v may x items views h at =
      let w : Log X S = log v.pushes v.pops v.known v.pushed (v.popped ++ x ∷ []) in
      let mine = h.popping port v at may in
      let popped = h.popped ++ x ∷ [] in
      let fits : fit h.known x = middle (fit h.known) h.popped items x (subst (λ l. All (fit h.known) l) h.adds_up h.all_fit) in (
        w,
        record {
          writer = h.writer;
          reader = h.reader;
          known = h.known;
          pushed = h.pushed;
          popped = popped;
          adds_up = h.adds_up ∙ sym (append_assoc h.popped (x ∷ []) items);
          all_fit = h.all_fit;
          pushing = each_set (AgreesOnPushes h.writer h.known h.pushed) views port w (h.pushing port v at)
              (λ j u other e. h.pushing j u e);
          popping = each_set (AgreesOnPops h.reader h.known popped) views port w (λ _. (mine.0, mine.1, ap (λ l. l ++ x ∷ []) mine.2))
              (λ j u other e p. absurd (other ((h.popping j u e p).0 ∙ sym mine.0)));
        },
        (refl, subst (λ s. fit s x) (sym mine.1) fits),
      )
