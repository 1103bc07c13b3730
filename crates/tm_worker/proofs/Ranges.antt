-- Ranges of marked lines: one more line is marked, and lines are replaced.
use Rattle.std.proofs.Common.{◌≡◌, ℕ, suc, ◌<◌, ◌≤◌, Bool, true, false, List, [], ◌∷◌, refl, sym, ap, ap₂, ◌∙◌, arith, subst}
use Rattle.std.specs.Prelude.{◌&&◌, ◌||◌, ◌==◌, nat_eq, nat_lt, nat_le}
use Rattle.std.specs.List.{AllByRecursion}
use Rattle.std.proofs.lemmas.Bool.Decides.{nat_tests}
use Rattle.tm_store.specs.declared.spans.Span.{Span}
use Rattle.tm_store.specs.Spans.{AreFrom, joined, marked}
use Rattle.tm_worker.specs.Fresh.{covers}

abbrev is_in : ℕ → ℕ → ℕ → Bool
is_in a b j = nat_le a j && nat_lt j b

abbrev pub AreBelow : ℕ → List Span → Type 0
AreBelow n rs = AllByRecursion (λ (r : Span). r.end ≤ n) rs

pub from-less : (k l : ℕ) (rs : List Span) → k ≤ l → AreFrom l rs → AreFrom k rs
from-less k l [] le h = tt
from-less k l (r ∷ rs) le h = (omega (arith, le, h.0), h.1, h.2)

-- two neighbouring ranges
in-joined : (a b c j : ℕ) → a ≤ b → b ≤ c → is_in a c j ≡ (is_in a b j || is_in b c j)
in-joined a b c j ab bc = go (nat_le a j) refl (nat_lt j b) refl (nat_le b j) refl (nat_lt j c) refl
  where
    go : (p : Bool) → nat_le a j ≡ p → (q : Bool) → nat_lt j b ≡ q → (s : Bool) → nat_le b j ≡ s → (t : Bool) → nat_lt j c ≡ t → is_in a c j ≡ (is_in a b j || is_in b c j)
    go false ep q eq true es true et = absurd (grind (arith, nat_tests))
    go false ep q eq true es false et = rw (ep, es, et) refl
    go false ep q eq false es t et = rw (ep, es) refl
    go true ep true eq true es t et = absurd (grind (arith, nat_tests))
    go true ep true eq false es true et = rw (ep, eq, et) refl
    go true ep true eq false es false et = absurd (grind (arith, nat_tests))
    go true ep false eq true es t et = rw (ep, eq, es) refl
    go true ep false eq false es t et = absurd (grind (arith, nat_tests))

or-assoc : (a b c : Bool) → ((a || b) || c) ≡ (a || (b || c))
or-assoc true b c = refl
or-assoc false b c = refl

or-swap : (a b c : Bool) → (a || (b || c)) ≡ (b || (a || c))
or-swap true true c = refl
or-swap true false c = refl
or-swap false b c = refl

covers-joined : (a b j : ℕ) (rs : List Span) → a ≤ b → AreFrom b rs → covers (joined a b rs) j ≡ (is_in a b j || covers rs j)
covers-joined a b j [] le h = refl
covers-joined a b j (r ∷ rs) le h = go (r.first == b) refl
  where
    go : (t : Bool) → (r.first == b) ≡ t → covers (joined a b (r ∷ rs)) j ≡ (is_in a b j || covers (r ∷ rs) j)
    go true e =
        let same : r.first ≡ b = grind (arith, nat_tests) in
        let later : b ≤ r.end = omega (arith, same, h.1) in
        rw e (ap (λ x. x || covers rs j) (in-joined a b r.end j le later ∙ ap (λ x. is_in a b j || is_in x r.end j) (sym same)) ∙ or-assoc (is_in a b j) (is_in r.first r.end j) (covers rs j))
    go false e = rw e refl

in-one : (i j : ℕ) → is_in i (suc i) j ≡ nat_eq j i
in-one i j = go (nat_eq j i) refl
  where
    go : (t : Bool) → nat_eq j i ≡ t → is_in i (suc i) j ≡ t
    go true e =
        let a : nat_le i j ≡ true = grind (arith, nat_tests) in
        let b : nat_lt j (suc i) ≡ true = grind (arith, nat_tests) in
        rw (a, b) refl
    go false e = step (nat_le i j) refl (nat_lt j (suc i)) refl
      where
        step : (p : Bool) → nat_le i j ≡ p → (q : Bool) → nat_lt j (suc i) ≡ q → is_in i (suc i) j ≡ false
        step true ep true eq = absurd (grind (arith, nat_tests))
        step true ep false eq = rw (ep, eq) refl
        step false ep q eq = rw ep refl

-- a line of a range is in it
in-there : (a b i j : ℕ) (c : Bool) → a ≤ i → i < b → (is_in a b j || c) ≡ (nat_eq j i || (is_in a b j || c))
in-there a b i j c le lt = go (nat_eq j i) refl
  where
    go : (t : Bool) → nat_eq j i ≡ t → (is_in a b j || c) ≡ (t || (is_in a b j || c))
    go true e =
        let p : nat_le a j ≡ true = grind (arith, nat_tests) in
        let q : nat_lt j b ≡ true = grind (arith, nat_tests) in
        rw (p, q) refl
    go false e = refl

-- one more line is marked
pub covers-marked : (k i j : ℕ) (rs : List Span) → AreFrom k rs → covers (marked i rs) j ≡ (nat_eq j i || covers rs j)
covers-marked k i j [] h = ap (λ x. x || false) (in-one i j)
covers-marked k i j (r ∷ rs) h = go (nat_le i r.end) refl (r.end == i) refl (nat_lt i r.first) refl (covers-marked (suc r.end) i j rs h.2)
  where
    go : (a : Bool) → nat_le i r.end ≡ a → (b : Bool) → (r.end == i) ≡ b → (c : Bool) → nat_lt i r.first ≡ c → covers (marked i rs) j ≡ (nat_eq j i || covers rs j) → covers (marked i (r ∷ rs)) j ≡ (nat_eq j i || covers (r ∷ rs) j)
    go false ea b eb c ec more = rw ea (ap (λ x. is_in r.first r.end j || x) more ∙ or-swap (is_in r.first r.end j) (nat_eq j i) (covers rs j))
    go true ea true eb c ec more =
        let same : r.end ≡ i = grind (arith, nat_tests) in
        let le : r.first ≤ i = omega (arith, same, h.1) in
        let apart : AreFrom (suc i) rs = subst (λ x. AreFrom (suc x) rs) same h.2 in
        rw (ea, eb) (
        covers-joined r.first (suc i) j rs (omega (arith, le)) apart
        ∙ ap (λ x. x || covers rs j) (in-joined r.first i (suc i) j le (omega arith) ∙ ap₂ (λ x y. is_in r.first x j || y) (sym same) (in-one i j))
        ∙ or-assoc (is_in r.first r.end j) (nat_eq j i) (covers rs j)
        ∙ or-swap (is_in r.first r.end j) (nat_eq j i) (covers rs j)
        )
    go true ea false eb true ec more =
        let apart : AreFrom (suc i) (r ∷ rs) = (grind (arith, nat_tests), h.1, h.2) in
        rw (ea, eb, ec) (covers-joined i (suc i) j (r ∷ rs) (omega arith) apart ∙ ap (λ x. x || covers (r ∷ rs) j) (in-one i j))
    go true ea false eb false ec more = rw (ea, eb, ec) (in-there r.first r.end i j (covers rs j) (grind (arith, nat_tests)) (grind (arith, nat_tests)))

from-joined : (k a b : ℕ) (rs : List Span) → k ≤ a → a < b → AreFrom b rs → AreFrom k (joined a b rs)
from-joined k a b [] ka ab h = (ka, ab, tt)
from-joined k a b (r ∷ rs) ka ab h = go (r.first == b) refl
  where
    go : (t : Bool) → (r.first == b) ≡ t → AreFrom k (joined a b (r ∷ rs))
    go true e = let lt : a < r.end = grind (arith, nat_tests, ab, h.1) in rw e (ka, lt, h.2)
    go false e = let gap : suc b ≤ r.first = grind (arith, nat_tests, h.0) in rw e (ka, ab, (gap, h.1, h.2))

pub from-marked : (k i : ℕ) (rs : List Span) → k ≤ i → AreFrom k rs → AreFrom k (marked i rs)
from-marked k i [] le h = (le, omega arith, tt)
from-marked k i (r ∷ rs) le h = go (nat_le i r.end) refl (r.end == i) refl (nat_lt i r.first) refl (λ (later : suc r.end ≤ i). from-marked (suc r.end) i rs later h.2)
  where
    go : (a : Bool) → nat_le i r.end ≡ a → (b : Bool) → (r.end == i) ≡ b → (c : Bool) → nat_lt i r.first ≡ c → (suc r.end ≤ i → AreFrom (suc r.end) (marked i rs)) → AreFrom k (marked i (r ∷ rs))
    go false ea b eb c ec more = rw ea (h.0, h.1, more (grind (arith, nat_tests)))
    go true ea true eb c ec more =
        let same : r.end ≡ i = grind (arith, nat_tests) in
        rw (ea, eb) (from-joined k r.first (suc i) rs h.0 (omega (arith, same, h.1)) (subst (λ x. AreFrom (suc x) rs) same h.2))
    go true ea false eb true ec more = rw (ea, eb, ec) (from-joined k i (suc i) (r ∷ rs) le (omega arith) (grind (arith, nat_tests), h.1, h.2))
    go true ea false eb false ec more = rw (ea, eb, ec) h

below-joined : (n a b : ℕ) (rs : List Span) → b ≤ n → AreBelow n rs → AreBelow n (joined a b rs)
below-joined n a b [] le h = (le, tt)
below-joined n a b (r ∷ rs) le h = go (r.first == b) refl
  where
    go : (t : Bool) → (r.first == b) ≡ t → AreBelow n (joined a b (r ∷ rs))
    go true e = rw e h
    go false e = rw e (le, h)

pub below-marked : (n i : ℕ) (rs : List Span) → i < n → AreBelow n rs → AreBelow n (marked i rs)
below-marked n i [] lt h = (lt, tt)
below-marked n i (r ∷ rs) lt h = go (nat_le i r.end) refl (r.end == i) refl (nat_lt i r.first) refl (below-marked n i rs lt h.1)
  where
    go : (a : Bool) → nat_le i r.end ≡ a → (b : Bool) → (r.end == i) ≡ b → (c : Bool) → nat_lt i r.first ≡ c → AreBelow n (marked i rs) → AreBelow n (marked i (r ∷ rs))
    go false ea b eb c ec more = rw ea (h.0, more)
    go true ea true eb c ec more = rw (ea, eb) (below-joined n r.first (suc i) rs (omega (arith, lt)) h.1)
    go true ea false eb true ec more = rw (ea, eb, ec) (below-joined n i (suc i) (r ∷ rs) (omega (arith, lt)) h)
    go true ea false eb false ec more = rw (ea, eb, ec) h

pub below-more : (n m : ℕ) (rs : List Span) → n ≤ m → AreBelow n rs → AreBelow m rs
below-more n m [] le h = tt
below-more n m (r ∷ rs) le h = (omega (arith, le, h.0), below-more n m rs le h.1)
