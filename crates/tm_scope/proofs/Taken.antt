-- A list that takes in a value.
use Rattle.std.proofs.Common.{◌≡◌, ◌⊎◌, ℕ, zero, suc, ◌<◌, ◌≤◌, ◌++◌, List, [], ◌∷◌, length, get_or, Some, Contains, inl, inr, refl, ap, sym, ◌∙◌, arith, length-append, subst}
use Rattle.std.specs.Prelude.{slice_get}
use Rattle.std.proofs.Math.ListN.{get_or-append}
use Rattle.std.proofs.lemmas.Option.{slice_get-get_or, slice_get_within, get_or_from_slice_get}
use Rattle.std.proofs.lemmas.List.Elements.{Contains-push}
use Rattle.tm_defs.specs.Tables.{NoneTwice, GrowsBy}
use Rattle.tm_defs.proofs.Growth.{grows-refl}
use Rattle.tm_scope.specs.Numbered.{TakesIn, KeepsLimit}

pub some_inj : {X : Type 0} {x y : X} → Some x ≡ Some y → x ≡ y
some_inj h = cc

-- the last element and the rest of a list are determined
pub snoc-rest : {X : Type 0} (xs ys : List X) (x y : X) → xs ++ x ∷ [] ≡ ys ++ y ∷ [] → xs ≡ ys
snoc-rest [] [] x y h = refl
snoc-rest [] (z ∷ []) x y h = cc
snoc-rest [] (z ∷ w ∷ ys) x y h = cc
snoc-rest (z ∷ []) [] x y h = cc
snoc-rest (z ∷ w ∷ xs) [] x y h = cc
snoc-rest (z ∷ xs) (w ∷ ys) x y h =
    let rest : xs ++ x ∷ [] ≡ ys ++ y ∷ [] = cc in
    let first : z ≡ w = cc in
    ap (λ l. z ∷ l) (snoc-rest xs ys x y rest) ∙ ap (λ e. e ∷ ys) first

pub snoc-last : {X : Type 0} (xs ys : List X) (x y : X) → xs ++ x ∷ [] ≡ ys ++ y ∷ [] → x ≡ y
snoc-last [] [] x y h = cc
snoc-last [] (z ∷ []) x y h = cc
snoc-last [] (z ∷ w ∷ ys) x y h = cc
snoc-last (z ∷ []) [] x y h = cc
snoc-last (z ∷ w ∷ xs) [] x y h = cc
snoc-last (z ∷ xs) (w ∷ ys) x y h = let rest : xs ++ x ∷ [] ≡ ys ++ y ∷ [] = cc in snoc-last xs ys x y rest

pub not-empty : {X : Type 0} (xs : List X) (x : X) → [] ≡ xs ++ x ∷ [] → ⊥
not-empty [] x h = cc
not-empty (y ∷ xs) x h = cc

pub contains-at : {X : Type 0} (xs : List X) (i : ℕ) (x : X) → slice_get xs i ≡ Some x → Contains xs x
contains-at xs i x h = (i, slice_get_within xs i x h, get_or_from_slice_get xs i x x h)

-- where an element stands
pub at-contains : {X : Type 0} (xs : List X) (x : X) → (h : Contains xs x) → slice_get xs h.0 ≡ Some x
at-contains xs x h = slice_get-get_or xs h.0 x h.1 ∙ ap Some h.2

-- a place of a list with one more element is an old one or the last
slice_get-push : {X : Type 0} (xs : List X) (x : X) (i : ℕ) (y : X) → slice_get (xs ++ x ∷ []) i ≡ Some y → (slice_get xs i ≡ Some y) ⊎ ((i ≡ length xs) × (y ≡ x))
slice_get-push [] x zero y h = inr (refl, cc)
slice_get-push [] x (suc i) y h = cc
slice_get-push (z ∷ xs) x zero y h = inl h
slice_get-push (z ∷ xs) x (suc i) y h = elim (slice_get-push xs x i y h) [ inl k ↦ inl k | inr k ↦ inr (ap (λ n. suc n) k.0, k.1) ]

push-cases : {X : Type 0} (xs : List X) (x : X) → NoneTwice xs → (Contains xs x → ⊥) → (i j : ℕ) (y : X) →
    (slice_get xs i ≡ Some y) ⊎ ((i ≡ length xs) × (y ≡ x)) → (slice_get xs j ≡ Some y) ⊎ ((j ≡ length xs) × (y ≡ x)) → i ≡ j
push-cases xs x once new i j y (inl a) (inl b) = once i j y a b
push-cases xs x once new i j y (inl a) (inr b) = absurd (new (contains-at xs i x (a ∙ ap Some b.1)))
push-cases xs x once new i j y (inr a) (inl b) = absurd (new (contains-at xs j x (b ∙ ap Some a.1)))
push-cases xs x once new i j y (inr a) (inr b) = a.0 ∙ sym b.0

-- a value that isn't there may be added
none_twice-push : {X : Type 0} (xs : List X) (x : X) → NoneTwice xs → (Contains xs x → ⊥) → NoneTwice (xs ++ x ∷ [])
none_twice-push xs x once new i j y a b = push-cases xs x once new i j y (slice_get-push xs x i y a) (slice_get-push xs x j y b)

module _ {X : Type 0} (x : X) (old new : List X) where
  pub grows-taken : TakesIn x old new → GrowsBy (x ∷ []) old new
  grows-taken (inl (there, same)) = let P : List X → Type 0 = λ l. GrowsBy (x ∷ []) old l in subst P (sym same) (grows-refl (x ∷ []) old)
  grows-taken (inr (none, same)) = record { added = x ∷ []; is = same; within = ((0, omega arith, refl), tt) }

  pub once-taken : TakesIn x old new → NoneTwice old → NoneTwice new
  once-taken (inl (there, same)) once = let P : List X → Type 0 = λ l. NoneTwice l in subst P (sym same) once
  once-taken (inr (none, same)) once = let P : List X → Type 0 = λ l. NoneTwice l in subst P (sym same) (none_twice-push old x once none)

  pub contains-taken : TakesIn x old new → Contains new x
  contains-taken (inl (there, same)) = let P : List X → Type 0 = λ l. Contains l x in subst P (sym same) there
  contains-taken (inr (none, same)) = let P : List X → Type 0 = λ l. Contains l x in subst P (sym same) (Contains-push old x)

  -- what was at the front stays
  pub get_or-taken : TakesIn x old new → (i : ℕ) (d : X) → i < length old → get_or new i d ≡ get_or old i d
  get_or-taken (inl (there, same)) i d lt = ap (λ l. get_or l i d) same
  get_or-taken (inr (none, same)) i d lt = ap (λ l. get_or l i d) same ∙ get_or-append old (x ∷ []) d i lt

  pub longer-taken : TakesIn x old new → length old ≤ length new
  longer-taken (inl (there, same)) = omega (arith, ap length same)
  longer-taken (inr (none, same)) = omega (arith, ap length same, length-append old (x ∷ []))

-- a limit that was kept is kept
pub limit-kept : (limit old new most : ℕ) → KeepsLimit limit old new → limit ≤ most → old ≤ most → new ≤ most
limit-kept limit old new most (inl same) h k = omega arith
limit-kept limit old new most (inr low) h k = omega arith
