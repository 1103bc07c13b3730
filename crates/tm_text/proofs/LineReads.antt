-- Shared lines, read by number.
use Rattle.std.proofs.Common.{◌≡◌, ℕ, suc, zero, ◌+◌, ◌-◌, ◌<◌, ◌^◌, ◌⊎◌, inl, inr, List, [], ◌∷◌, length, get_or, Some, refl, ap, ap₂, sym, ◌∙◌, subst, arith}
use Rattle.std.specs.Prelude.{slice_get, map, All}
use Rattle.std.specs.Option.{option_map}
use Rattle.std.specs.List.{AllZip}
use Rattle.std.specs.Arc.{arc_value}
use Rattle.std.specs.declared.sync.Arc.{Arc}
use Rattle.std.specs.declared.alloc.Global.{Global}
use Rattle.std.proofs.lemmas.Option.{slice_get-map, slice_get_within, slice_get_read, get_or_from_slice_get}

-- a read of a list, as `slice_get`
pub read_there : {X : Type 0} (xs : List X) (i : ℕ) (x : X) → i < length xs → x ≡ get_or xs i x → slice_get xs i ≡ Some x
read_there xs i x h e = slice_get_read xs (length xs) i x refl h e

pub line_there : (arcs : List (Arc (List ℕ) Global)) (i : ℕ) (a : Arc (List ℕ) Global) (line : List ℕ) → i < length arcs → a ≡ get_or arcs i a → line ≡ arc_value a → slice_get (map arc_value arcs) i ≡ Some line
line_there arcs i a line h e f = slice_get-map arc_value arcs i ∙ ap (option_map arc_value) (read_there arcs i a h e) ∙ ap Some (sym f)

pub short_at : (lines : List (List ℕ)) (i : ℕ) (line : List ℕ) → All (λ x. length x < 2 ^ 31 - 1) lines → slice_get lines i ≡ Some line → length line < 2 ^ 31 - 1
short_at lines i line all at =
    let P : List ℕ → Type 0 = λ x. length x < 2 ^ 31 - 1 in
    subst P (get_or_from_slice_get lines i line line at) (all i line (slice_get_within lines i line at))

below-next : (k i : ℕ) → k < i + 1 → (k < i) ⊎ (k ≡ i)
below-next zero zero h = inr refl
below-next (suc k) zero h = absurd (omega arith)
below-next zero (suc i) h = inl (omega arith)
below-next (suc k) (suc i) h = elim (below-next k i (omega arith)) [ inl a ↦ inl (omega arith) | inr b ↦ inr (omega arith) ]

-- the lines up to the next one are short
pub short-next : (arcs : List (Arc (List ℕ) Global)) (i bound : ℕ) (a : Arc (List ℕ) Global) (line : List ℕ) → i < length arcs → a ≡ get_or arcs i a → line ≡ arc_value a → length line < bound →
    ((k : ℕ) (d : List ℕ) → k < i → length (get_or (map arc_value arcs) k d) < bound) → (k : ℕ) (d : List ℕ) → k < i + 1 → length (get_or (map arc_value arcs) k d) < bound
short-next arcs i bound a line h e f short before k d lt = elim (below-next k i lt) [
  | inl less ↦ before k d less
  | inr same ↦
      let P : ℕ → Type 0 = λ n. length (get_or (map arc_value arcs) n d) < bound in
      let there : get_or (map arc_value arcs) i d ≡ line = get_or_from_slice_get (map arc_value arcs) i line d (line_there arcs i a line h e f) in
      subst P (sym same) (omega (arith, ap length there))
]

-- equal lines, also where they are shared
pub same-lines : (arcs copies : List (Arc (List ℕ) Global)) → AllZip (λ a b. arc_value b ≡ arc_value a) arcs copies → map arc_value copies ≡ map arc_value arcs
same-lines [] [] h = refl
same-lines [] (b ∷ bs) h = absurd h
same-lines (a ∷ as') [] h = absurd h
same-lines (a ∷ as') (b ∷ bs) h = ap₂ (λ x xs. x ∷ xs) h.0 (same-lines as' bs h.1)
