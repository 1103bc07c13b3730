-- The layers over the groups of a match, as the code paints them.
use Rattle.std.proofs.Common.{◌≡◌, ℕ, zero, suc, ◌≤◌, ◌++◌, List, [], ◌∷◌, length, map, take, true, false, cond, refl, ap, sym, ◌∙◌, subst, arith, length-append}
use Rattle.std.specs.Prelude.{Result, Ok, Err, IfOk, nat_le}
use Rattle.std.specs.List.{AllByRecursion}
use Rattle.std.proofs.lemmas.List.{reverse-append, append-nil, take-append-le, take_all}
use Rattle.tm_defs.specs.declared.tokenizer.LineFault.{LineFault}
use Rattle.tm_defs.specs.Tables.{Tables, path_at}
use Rattle.tm_line_turns.specs.LineRun.{Part, joined, nothing, paint}
use Rattle.tm_line_turns.specs.Captures.{closed, kept, every_layer}
use Rattle.tm_line_parts.specs.declared.layers.Layer.{Layer}
use Rattle.tm_line_parts.specs.declared.rules.Out.{Out}
use Rattle.tm_line_parts.specs.Adds.{Adds}
use Rattle.tm_line_parts.specs.Layers.{layer_at, layers_at}
use Rattle.tm_line_parts.proofs.Adding.{paints-alone, first-fails, then-any, joined-assoc}

module _ {X : Type 0} (P : X → Type 0) where
  pub all-front : (xs : List X) (x : X) → AllByRecursion P (xs ++ x ∷ []) → AllByRecursion P xs
  all-front [] x h = tt
  all-front (y ∷ ys) x h = (h.0, all-front ys x h.1)

  pub all-last : (xs : List X) (x : X) → AllByRecursion P (xs ++ x ∷ []) → P x
  all-last [] x h = h.0
  all-last (y ∷ ys) x h = all-last ys x h.1

  pub all-push : (xs : List X) (x : X) → AllByRecursion P xs → P x → AllByRecursion P (xs ++ x ∷ [])
  all-push [] x h k = (k, tt)
  all-push (y ∷ ys) x h k = (h.0, all-push ys x h.1 k)

  pub all-take : (n : ℕ) (xs : List X) → AllByRecursion P xs → AllByRecursion P (take n xs)
  all-take zero xs h = tt
  all-take (suc n) [] h = tt
  all-take (suc n) (x ∷ xs) h = (h.0, all-take n xs h.1)

pub layers-push : (t : Tables) (rest : List Layer) (last : Layer) → layers_at t (rest ++ last ∷ []) ≡ layer_at t last ∷ layers_at t rest
layers-push t rest last = ap (map (layer_at t)) (reverse-append rest (last ∷ []))

module _ (meta : List (List ℕ) → ℕ) (t : Tables) where
  -- nothing was added
  pub none-added : {X : Type 0} (old : Out) (x : X) → Adds meta nothing t t old old (Ok x)
  none-added old x = paints-alone meta nothing t old old x (sym (append-nil old.pieces.items)) refl

  abbrev one : Layer → Part
  one last = paint last.end (path_at t last.scopes)

  pub finish-none : {X : Type 0} (layers : List Layer) (tail : Part) (old new : Out) (r : Result X LineFault) → layers ≡ [] → Adds meta tail t t old new r → Adds meta (joined (every_layer (layers_at t layers)) tail) t t old new r
  finish-none layers tail old new r e h =
      let P : List Layer → Type 0 = λ l. Adds meta (joined (every_layer (layers_at t l)) tail) t t old new r in
      let mark : ℕ = 0 in subst P (sym e) (then-any meta nothing tail t t t old old new mark r (none-added old mark) h)

  module _ (layers rest : List Layer) (last : Layer) (e : layers ≡ rest ++ last ∷ []) where
    every-is : every_layer (layers_at t layers) ≡ joined (one last) (every_layer (layers_at t rest))
    every-is = ap (λ l. every_layer (layers_at t l)) e ∙ ap every_layer (layers-push t rest last)

    pub finish-last : {X Y : Type 0} (tail : Part) (old now new : Out) (x : X) (r : Result Y LineFault) → Adds meta (one last) t t old now (Ok x) → Adds meta (joined (every_layer (layers_at t rest)) tail) t t now new r →
        Adds meta (joined (every_layer (layers_at t layers)) tail) t t old new r
    finish-last tail old now new x r h k =
        let rests = every_layer (layers_at t rest) in
        let P : Part → Type 0 = λ p. Adds meta p t t old new r in
        subst P (sym (ap (λ p. joined p tail) every-is ∙ joined-assoc (one last) rests tail)) (then-any meta (one last) (joined rests tail) t t t old now new x r h k)

    pub finish-fails : {X Y : Type 0} (tail : Part) (old new : Out) (f : LineFault) → Adds {X = X} meta (one last) t t old new (Err f) → Adds {X = Y} meta (joined (every_layer (layers_at t layers)) tail) t t old new (Err f)
    finish-fails {X} {Y} tail old new f h =
        let rests = every_layer (layers_at t rest) in
        let P : Part → Type 0 = λ p. Adds {X = Y} meta p t t old new (Err f) in
        subst P (sym (ap (λ p. joined p tail) every-is ∙ joined-assoc (one last) rests tail)) (first-fails meta (one last) (joined rests tail) t t old new f h)

    module _ (at : ℕ) where
      closed-goes : nat_le last.end at ≡ true → closed at (layers_at t layers) ≡ joined (one last) (closed at (layers_at t rest))
      closed-goes so = ap (λ l. closed at (layers_at t l)) e ∙ ap (closed at) (layers-push t rest last) ∙ ap (λ b. cond b (joined (one last) (closed at (layers_at t rest))) nothing) so

      kept-goes : nat_le last.end at ≡ true → kept at (layers_at t layers) ≡ kept at (layers_at t rest)
      kept-goes so = ap (λ l. kept at (layers_at t l)) e ∙ ap (kept at) (layers-push t rest last) ∙ ap (λ b. cond b (kept at (layers_at t rest)) (layer_at t last ∷ layers_at t rest)) so

      closed-stays : nat_le last.end at ≡ false → closed at (layers_at t layers) ≡ nothing
      closed-stays so = ap (λ l. closed at (layers_at t l)) e ∙ ap (closed at) (layers-push t rest last) ∙ ap (λ b. cond b (joined (one last) (closed at (layers_at t rest))) nothing) so

      kept-stays : nat_le last.end at ≡ false → kept at (layers_at t layers) ≡ layers_at t layers
      kept-stays so =
          ap (λ l. kept at (layers_at t l)) e ∙ ap (kept at) (layers-push t rest last) ∙ ap (λ b. cond b (kept at (layers_at t rest)) (layer_at t last ∷ layers_at t rest)) so
          ∙ sym (ap (layers_at t) e ∙ layers-push t rest last)

      pub close-stays : (old : Out) (n : ℕ) → nat_le last.end at ≡ false → Adds meta (closed at (layers_at t layers)) t t old old (Ok n)
      close-stays old n so = let P : Part → Type 0 = λ p. Adds meta p t t old old (Ok n) in subst P (sym (closed-stays so)) (none-added old n)

      pub stays-kept : (n : ℕ) → n ≡ length layers → nat_le last.end at ≡ false → (n ≤ length layers) × (layers_at t (take n layers) ≡ kept at (layers_at t layers))
      stays-kept n all so = (omega (arith, all), ap (λ k. layers_at t (take k layers)) all ∙ ap (layers_at t) (take_all (length layers) layers (omega arith)) ∙ sym (kept-stays so))

      pub close-fails : {X : Type 0} (old new : Out) (f : LineFault) → nat_le last.end at ≡ true → Adds {X = X} meta (one last) t t old new (Err f) → Adds {X = ℕ} meta (closed at (layers_at t layers)) t t old new (Err f)
      close-fails old new f so h = let P : Part → Type 0 = λ p. Adds {X = ℕ} meta p t t old new (Err f) in subst P (sym (closed-goes so)) (first-fails meta (one last) (closed at (layers_at t rest)) t t old new f h)

      pub close-goes : {X : Type 0} (old now new : Out) (x : X) (r : Result ℕ LineFault) → nat_le last.end at ≡ true → Adds meta (one last) t t old now (Ok x) → Adds meta (closed at (layers_at t rest)) t t now new r → Adds meta (closed at (layers_at t layers)) t t old new r
      close-goes old now new x r so h k = let P : Part → Type 0 = λ p. Adds meta p t t old new r in subst P (sym (closed-goes so)) (then-any meta (one last) (closed at (layers_at t rest)) t t t old now new x r h k)

      pub goes-kept : (n : ℕ) → nat_le last.end at ≡ true → (n ≤ length rest) × (layers_at t (take n rest) ≡ kept at (layers_at t rest)) → (n ≤ length layers) × (layers_at t (take n layers) ≡ kept at (layers_at t layers))
      goes-kept n so h =
          (omega (arith, h.0, ap length e, length-append rest (last ∷ [])), ap (λ l. layers_at t (take n l)) e ∙ ap (layers_at t) (take-append-le n rest (last ∷ []) h.0) ∙ h.1 ∙ sym (kept-goes so))

      pub goes-kept-any : (r : Result ℕ LineFault) → nat_le last.end at ≡ true → IfOk r (λ n. (n ≤ length rest) × (layers_at t (take n rest) ≡ kept at (layers_at t rest))) → IfOk r (λ n. (n ≤ length layers) × (layers_at t (take n layers) ≡ kept at (layers_at t layers)))
      goes-kept-any (Ok n) so h = goes-kept n so h
      goes-kept-any (Err e) so h = tt
