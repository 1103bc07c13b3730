-- A path matches exactly where its names match scopes in order.
use Rattle.std.proofs.Common.{◌≡◌, ℕ, zero, suc, ◌+◌, ◌<◌, ◌≤◌, ◌⊎◌, inl, inr, Bool, true, false, ◌&&◌, ◌||◌, List, [], ◌∷◌, length, drop, Option, Some, None, is_some, refl, ap, sym, ◌∙◌, arith, nat_le, if◌then◌else◌}
use Rattle.std.specs.Prelude.{slice_get, option_and_then}
use Rattle.std.proofs.lemmas.Bool.Decides.{nat_tests}
use Rattle.tm_selector.specs.Names.{covers, is_covered, place_above, path_place, is_path_of, in_order}
use Rattle.tm_selector.proofs.Booleans.{or-false, or-true, and-true, and-false}

-- whether a path that is matched at a place is so in the scopes from another place on
abbrev from_place : Option ℕ → ℕ → Bool
from_place None j = false
from_place (Some k) j = nat_le j k

-- the scope at a place is the first of those from there on
first-from : (scopes : List (List ℕ)) (j : ℕ) → j < length scopes → (scope : List ℕ) × (slice_get scopes j ≡ Some scope) × (drop j scopes ≡ scope ∷ drop (suc j) scopes)
first-from [] j lt = absurd (omega arith)
first-from (x ∷ xs) zero lt = (x, refl, refl)
first-from (x ∷ xs) (suc j) lt = first-from xs j (omega arith)

which : (j k : ℕ) → (j < k) ⊎ ((j ≡ k) ⊎ (k < j))
which zero zero = inr (inl refl)
which zero (suc k) = inl (omega arith)
which (suc j) zero = inr (inr (omega arith))
which (suc j) (suc k) = elim (which j k) [ inl h ↦ inl (omega arith) | inr (inl h) ↦ inr (inl (omega arith)) | inr (inr h) ↦ inr (inr (omega arith)) ]

le-true : (j k : ℕ) → j ≤ k → nat_le j k ≡ true
le-true j k h = grind (arith, nat_tests)

le-false : (j k : ℕ) → k < j → nat_le j k ≡ false
le-false j k h = grind (arith, nat_tests)

-- the name is matched at place k
here : (name scope : List ℕ) (scopes : List (List ℕ)) (j k : ℕ) → slice_get scopes j ≡ Some scope → is_covered name (slice_get scopes k) ≡ true →
    nat_le j k ≡ ((covers name scope && nat_le (suc j) (suc k)) || nat_le (suc j) k)
here name scope scopes j k at covered = elim (which j k) [
  | inl h ↦ le-true j k (omega arith) ∙ sym (or-true (covers name scope && nat_le (suc j) (suc k)) (nat_le (suc j) k) (le-true (suc j) k (omega arith)))
  | inr (inl h) ↦
      let c : covers name scope ≡ true = ap (is_covered name) (sym at ∙ ap (slice_get scopes) h) ∙ covered in
      le-true j k (omega arith) ∙ sym (or-false (covers name scope && nat_le (suc j) (suc k)) (nat_le (suc j) k) (le-false (suc j) k (omega arith)) ∙ and-true (covers name scope) (nat_le (suc j) (suc k)) (le-true (suc j) (suc k) (omega arith)) ∙ c)
  | inr (inr h) ↦ le-false j k h ∙ sym (or-false (covers name scope && nat_le (suc j) (suc k)) (nat_le (suc j) k) (le-false (suc j) k (omega arith)) ∙ and-false (covers name scope) (nat_le (suc j) (suc k)) (le-false (suc j) (suc k) (omega arith)))
]

-- the name is not matched at place k
not-here : (name scope : List ℕ) (scopes : List (List ℕ)) (j k : ℕ) → slice_get scopes j ≡ Some scope → is_covered name (slice_get scopes k) ≡ false →
    (covers name scope && nat_le (suc j) k) ≡ (covers name scope && nat_le (suc j) (suc k))
not-here name scope scopes j k at covered = elim (which j k) [
  | inl h ↦ and-true (covers name scope) (nat_le (suc j) k) (le-true (suc j) k (omega arith)) ∙ sym (and-true (covers name scope) (nat_le (suc j) (suc k)) (le-true (suc j) (suc k) (omega arith)))
  | inr (inl h) ↦
      let c : covers name scope ≡ false = ap (is_covered name) (sym at ∙ ap (slice_get scopes) h) ∙ covered in
      ap (λ b. b && nat_le (suc j) k) c ∙ sym (ap (λ b. b && nat_le (suc j) (suc k)) c)
  | inr (inr h) ↦ and-false (covers name scope) (nat_le (suc j) k) (le-false (suc j) k (omega arith)) ∙ sym (and-false (covers name scope) (nat_le (suc j) (suc k)) (le-false (suc j) (suc k) (omega arith)))
]

above-from : (name scope : List ℕ) (scopes : List (List ℕ)) (j k : ℕ) → slice_get scopes j ≡ Some scope →
    from_place (place_above name scopes k) j ≡ ((covers name scope && nat_le (suc j) k) || from_place (place_above name scopes k) (suc j))
above-from name scope scopes j zero at = sym (or-false (covers name scope && nat_le (suc j) zero) false refl ∙ and-false (covers name scope) (nat_le (suc j) zero) (le-false (suc j) zero (omega arith)))
above-from name scope scopes j (suc k) at = go (above-from name scope scopes j k at) (is_covered name (slice_get scopes k)) refl
  where
    go : from_place (place_above name scopes k) j ≡ ((covers name scope && nat_le (suc j) k) || from_place (place_above name scopes k) (suc j)) →
        (b : Bool) → is_covered name (slice_get scopes k) ≡ b →
        from_place (if b then Some k else place_above name scopes k) j ≡ ((covers name scope && nat_le (suc j) (suc k)) || from_place (if b then Some k else place_above name scopes k) (suc j))
    go more true e = here name scope scopes j k at e
    go more false e = more ∙ ap (λ b. b || from_place (place_above name scopes k) (suc j)) (not-here name scope scopes j k at e)

above-below : (name : List ℕ) (scopes : List (List ℕ)) (j k : ℕ) → k ≤ j → from_place (place_above name scopes k) j ≡ false
above-below name scopes j zero le = refl
above-below name scopes j (suc k) le = go (above-below name scopes j k (omega arith)) (is_covered name (slice_get scopes k))
  where
    go : from_place (place_above name scopes k) j ≡ false → (b : Bool) → from_place (if b then Some k else place_above name scopes k) j ≡ false
    go more true = le-false j k (omega arith)
    go more false = more

name-from : (name scope : List ℕ) (scopes : List (List ℕ)) (j : ℕ) (p : Option ℕ) → slice_get scopes j ≡ Some scope →
    from_place (option_and_then (place_above name scopes) p) j ≡ ((covers name scope && from_place p (suc j)) || from_place (option_and_then (place_above name scopes) p) (suc j))
name-from name scope scopes j None at = sym (or-false (covers name scope && false) false refl ∙ and-false (covers name scope) false refl)
name-from name scope scopes j (Some k) at = above-from name scope scopes j k at

IsAtMost : ℕ → Option ℕ → Type 0
IsAtMost n None = Unit {0}
IsAtMost n (Some k) = k ≤ n

name-end : (name : List ℕ) (scopes : List (List ℕ)) (n : ℕ) (p : Option ℕ) → IsAtMost n p → from_place (option_and_then (place_above name scopes) p) n ≡ false
unfolding IsAtMost
name-end name scopes n None le = refl
name-end name scopes n (Some k) le = above-below name scopes n k le

above-most : (name : List ℕ) (scopes : List (List ℕ)) (n k : ℕ) → k ≤ n → IsAtMost n (place_above name scopes k)
unfolding IsAtMost
above-most name scopes n zero le = tt
above-most name scopes n (suc k) le = go (above-most name scopes n k (omega arith)) (is_covered name (slice_get scopes k))
  where
    go : IsAtMost n (place_above name scopes k) → (b : Bool) → IsAtMost n (if b then Some k else place_above name scopes k)
    go more true = omega arith
    go more false = more

path-most : (scopes : List (List ℕ)) (names : List (List ℕ)) → IsAtMost (length scopes) (path_place scopes names)
unfolding IsAtMost
path-most scopes [] = omega arith
path-most scopes (name ∷ names) = go (path_place scopes names) (path-most scopes names)
  where
    go : (p : Option ℕ) → IsAtMost (length scopes) p → IsAtMost (length scopes) (option_and_then (place_above name scopes) p)
    go None le = tt
    go (Some k) le = above-most name scopes (length scopes) k le

-- down from the end of the scopes, m places
path-from : (scopes : List (List ℕ)) (names : List (List ℕ)) (m j : ℕ) → j + m ≡ length scopes → in_order names (drop j scopes) ≡ from_place (path_place scopes names) j
path-from scopes [] m j e = sym (le-true j (length scopes) (omega arith))
path-from scopes (name ∷ names) zero j e =
    let all : j ≡ length scopes = omega arith in
    ap (λ k. in_order (name ∷ names) (drop k scopes)) all ∙ ap (in_order (name ∷ names)) (drop-all scopes) ∙ sym (ap (from_place (path_place scopes (name ∷ names))) all ∙ name-end name scopes (length scopes) (path_place scopes names) (path-most scopes names))
  where
    drop-all : (xs : List (List ℕ)) → drop (length xs) xs ≡ []
    drop-all [] = refl
    drop-all (x ∷ xs) = drop-all xs
path-from scopes (name ∷ names) (suc m) j e =
    let first = first-from scopes j (omega arith) in
    ap (in_order (name ∷ names)) first.2
    ∙ ap (λ b. (covers name first.0 && b) || in_order (name ∷ names) (drop (suc j) scopes)) (path-from scopes names m (suc j) (omega arith))
    ∙ ap (λ b. (covers name first.0 && from_place (path_place scopes names) (suc j)) || b) (path-from scopes (name ∷ names) m (suc j) (omega arith))
    ∙ sym (name-from name first.0 scopes j (path_place scopes names) first.1)

pub path-in_order : (names scopes : List (List ℕ)) → is_path_of names scopes ≡ in_order names scopes
path-in_order names scopes = sym (path-from scopes names (length scopes) 0 (omega arith) ∙ go (path_place scopes names))
  where
    go : (p : Option ℕ) → from_place p 0 ≡ is_some p
    go None = refl
    go (Some k) = le-true 0 k (omega arith)
