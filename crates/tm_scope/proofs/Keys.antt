-- Keys of a set whose `==` is that of one value.
use Rattle.std.proofs.Common.{◌≡◌, ◌<◌, ℕ, zero, suc, Bool, true, false, List, [], ◌∷◌, ◌++◌, length, get_or, Some, Contains, refl, ap, sym, ◌∙◌, arith, position, true≢false, if◌then◌else◌}
use Rattle.std.specs.Prelude.{slice_get}
use Rattle.std.specs.List.{list_any, position_or_len, AllByRecursion, IsDistinct}
use Rattle.std.proofs.lemmas.Option.{slice_get-get_or}
use Rattle.std.proofs.lemmas.List.Quantifiers.{position-Some}
use Rattle.std.proofs.lemmas.List.Sums.{position_or_len_is}
use Rattle.std.proofs.lemmas.Map.Keys.{IsDistinct-head, IsDistinct-tail}
use Rattle.indexmap.proofs.CallerLemmas.{Contains-list_any}
use Rattle.indexmap.specs.IndexSet.{insert_key}
use Rattle.tm_defs.specs.Tables.{NoneTwice}

fails-at : {X : Type 0} (p : X → Bool) (xs : List X) (i : ℕ) (x : X) → AllByRecursion (λ y. p y ≡ false) xs → slice_get xs i ≡ Some x → p x ≡ false
fails-at p [] i x h at = cc
fails-at p (y ∷ xs) zero x h at = let same : y ≡ x = cc in ap p (sym same) ∙ h.0
fails-at p (y ∷ xs) (suc i) x h at = fails-at p xs i x h.1 at

module _ {X : Type 0} (eq : X → X → Bool) where
  -- no key twice, where each is equal to itself
  pub distinct-once : ((x : X) → eq x x ≡ true) → (xs : List X) → IsDistinct eq xs → NoneTwice xs
  distinct-once self [] d i j x a b = cc
  distinct-once self (y ∷ xs) d zero zero x a b = refl
  distinct-once self (y ∷ xs) d zero (suc j) x a b =
      let same : y ≡ x = cc in
      absurd (true≢false (sym (self y) ∙ ap (eq y) same ∙ fails-at (eq y) xs j x (IsDistinct-head eq y xs d) b))
  distinct-once self (y ∷ xs) d (suc i) zero x a b =
      let same : y ≡ x = cc in
      absurd (true≢false (sym (self y) ∙ ap (eq y) same ∙ fails-at (eq y) xs i x (IsDistinct-head eq y xs d) a))
  distinct-once self (y ∷ xs) d (suc i) (suc j) x a b = ap (λ n. suc n) (distinct-once self xs (IsDistinct-tail eq y xs d) i j x a b)

  module _ (one : (x y : X) → eq x y ≡ true → x ≡ y) (v : X) (xs : List X) where
    -- a key that is found is the value
    pub found-at : (i : ℕ) → position (eq v) xs ≡ Some i → slice_get xs i ≡ Some v
    found-at i e =
        let q = position-Some (eq v) xs i v e in
        slice_get-get_or xs i v q.0 ∙ ap Some (sym (one v (get_or xs i v) q.1))

    none-passes : (Contains xs v → ⊥) → list_any (eq v) xs ≡ false
    none-passes none = by (list_any (eq v) xs) refl
      where
        by : (b : Bool) → list_any (eq v) xs ≡ b → b ≡ false
        by true e = absurd (none (Contains-list_any eq one xs v e))
        by false e = refl

    -- a new key goes last
    pub new-key : (Contains xs v → ⊥) → insert_key eq xs v ≡ xs ++ v ∷ []
    new-key none = ap (λ b. if b then xs else xs ++ v ∷ []) (none-passes none)

    pub new-index : (Contains xs v → ⊥) → position_or_len (eq v) xs ≡ length xs
    new-index none =
        position_or_len_is (eq v) xs (length xs) v (omega arith) (λ k lt. by k lt (eq v (get_or xs k v)) refl) (λ lt. absurd (omega arith))
      where
        by : (k : ℕ) → k < length xs → (b : Bool) → eq v (get_or xs k v) ≡ b → b ≡ false
        by k lt true e = absurd (none (k, lt, sym (one v (get_or xs k v) e)))
        by k lt false e = refl
