-- The strongest alternative: of equally strong ones the last.
use Rattle.std.proofs.Common.{◌≡◌, ℕ, zero, suc, ◌<◌, ◌⊎◌, inl, inr, Bool, true, false, List, [], ◌∷◌, Option, Some, None, refl, ap, sym, ◌∙◌, subst, arith, nat_lt, if◌then◌else◌}
use Rattle.std.specs.Prelude.{slice_get, MatchOption}
use Rattle.std.proofs.lemmas.Bool.Decides.{nat_tests}
use Rattle.tm_theme.specs.declared.style.Alternative.{Alternative}
use Rattle.tm_theme.specs.Style.{Attribute, dots, is_weaker, sets, stronger, strongest}
use Rattle.tm_theme.specs.Strongest.{IsStrongest, IsByStrength}

pub which : (m n : ℕ) → (m < n) ⊎ ((m ≡ n) ⊎ (n < m))
which zero zero = inr (inl refl)
which zero (suc n) = inl (omega arith)
which (suc m) zero = inr (inr (omega arith))
which (suc m) (suc n) = elim (which m n) [ inl h ↦ inl (omega arith) | inr (inl h) ↦ inr (inl (omega arith)) | inr (inr h) ↦ inr (inr (omega arith)) ]

abbrev pub by_numbers : ℕ → ℕ → Bool → Bool
by_numbers m n rest = if nat_lt m n then true else (if nat_lt n m then false else rest)

lt-true : (m n : ℕ) → m < n → nat_lt m n ≡ true
lt-true m n h = grind (arith, nat_tests)

lt-false : (m n : ℕ) → (m < n → ⊥) → nat_lt m n ≡ false
lt-false m n h = elim (which m n) [ inl k ↦ absurd (h k) | inr (inl k) ↦ grind (arith, nat_tests) | inr (inr k) ↦ grind (arith, nat_tests) ]

pub less : (m n : ℕ) (rest : Bool) → m < n → by_numbers m n rest ≡ true
less m n rest h = ap (λ b. if b then true else (if nat_lt n m then false else rest)) (lt-true m n h)

more : (m n : ℕ) (rest : Bool) → n < m → by_numbers m n rest ≡ false
more m n rest h = ap (λ b. if b then true else (if nat_lt n m then false else rest)) (lt-false m n (λ k. omega arith)) ∙ ap (λ b. if b then false else rest) (lt-true n m h)

even : (m n : ℕ) (rest : Bool) → m ≡ n → by_numbers m n rest ≡ rest
even m n rest h = ap (λ b. if b then true else (if nat_lt n m then false else rest)) (lt-false m n (λ k. omega arith)) ∙ ap (λ b. if b then false else rest) (lt-false n m (λ k. omega arith))

when-true : (m n : ℕ) (rest : Bool) → by_numbers m n rest ≡ true → (m < n) ⊎ ((m ≡ n) × (rest ≡ true))
when-true m n rest e = elim (which m n) [ inl h ↦ inl h | inr (inl h) ↦ inr (h, sym (even m n rest h) ∙ e) | inr (inr h) ↦ absurd (false-true (sym (more m n rest h) ∙ e)) ]
  where
    false-true : false ≡ true → ⊥
    false-true h = cc

when-false : (m n : ℕ) (rest : Bool) → by_numbers m n rest ≡ false → (n < m) ⊎ ((m ≡ n) × (rest ≡ false))
when-false m n rest e = elim (which m n) [ inl h ↦ absurd (true-false (sym (less m n rest h) ∙ e)) | inr (inl h) ↦ inr (h, sym (even m n rest h) ∙ e) | inr (inr h) ↦ inl h ]
  where
    true-false : true ≡ false → ⊥
    true-false h = cc

-- what is not weaker than another lies at least as high
pub between : (c x b : List (List ℕ)) → is_weaker c x ≡ true → is_weaker c b ≡ false → is_weaker b x ≡ true
between [] [] b h k = cc
between [] (x ∷ xs) [] h k = refl
between [] (x ∷ xs) (b ∷ bs) h k = cc
between (c ∷ cs) [] b h k = cc
between (c ∷ cs) (x ∷ xs) [] h k = refl
between (c ∷ cs) (x ∷ xs) (b ∷ bs) h k = go (between cs xs bs) (when-true (dots c) (dots x) (is_weaker cs xs) h) (when-false (dots c) (dots b) (is_weaker cs bs) k)
  where
    go : (is_weaker cs xs ≡ true → is_weaker cs bs ≡ false → is_weaker bs xs ≡ true) → ((dots c < dots x) ⊎ ((dots c ≡ dots x) × (is_weaker cs xs ≡ true))) →
        ((dots b < dots c) ⊎ ((dots c ≡ dots b) × (is_weaker cs bs ≡ false))) → by_numbers (dots b) (dots x) (is_weaker bs xs) ≡ true
    go rest (inl p) (inl q) = less (dots b) (dots x) (is_weaker bs xs) (omega arith)
    go rest (inl p) (inr q) = less (dots b) (dots x) (is_weaker bs xs) (omega (arith, q.0))
    go rest (inr p) (inl q) = less (dots b) (dots x) (is_weaker bs xs) (omega (arith, p.0))
    go rest (inr p) (inr q) = even (dots b) (dots x) (is_weaker bs xs) (omega (arith, p.0, q.0)) ∙ rest p.1 q.1

pub asymmetric : (a b : List (List ℕ)) → is_weaker a b ≡ true → is_weaker b a ≡ false
asymmetric [] [] h = cc
asymmetric [] (b ∷ bs) h = refl
asymmetric (a ∷ as') [] h = cc
asymmetric (a ∷ as') (b ∷ bs) h = go (asymmetric as' bs) (when-true (dots a) (dots b) (is_weaker as' bs) h)
  where
    go : (is_weaker as' bs ≡ true → is_weaker bs as' ≡ false) → ((dots a < dots b) ⊎ ((dots a ≡ dots b) × (is_weaker as' bs ≡ true))) → by_numbers (dots b) (dots a) (is_weaker bs as') ≡ false
    go rest (inl p) = more (dots b) (dots a) (is_weaker bs as') p
    go rest (inr p) = even (dots b) (dots a) (is_weaker bs as') (sym p.0) ∙ rest p.1

not-itself : (a : List (List ℕ)) → is_weaker a a ≡ false
not-itself a = go (is_weaker a a) refl
  where
    go : (b : Bool) → is_weaker a a ≡ b → b ≡ false
    go false e = refl
    go true e = sym e ∙ asymmetric a a e

IsAnswer : Attribute → List (List ℕ) → List ℕ → List Alternative → Option Alternative → Type 0
IsAnswer attribute above scope all o = MatchOption o ((place : ℕ) (b : Alternative) → slice_get all place ≡ Some b → sets attribute above scope b ≡ false) (IsStrongest attribute above scope all)

pub some-same : (a b : Alternative) → ◌≡◌ {A = Option Alternative} (Some a) (Some b) → a ≡ b
some-same a b e = cc

-- one more alternative in front
passed : (attribute : Attribute) (above : List (List ℕ)) (scope : List ℕ) (x : Alternative) (all : List Alternative) (o : Option Alternative) → sets attribute above scope x ≡ false →
    IsAnswer attribute above scope all o → IsAnswer attribute above scope (x ∷ all) o
unfolding IsAnswer
passed attribute above scope x all None unset h = none
  where
    none : (place : ℕ) (b : Alternative) → slice_get (x ∷ all) place ≡ Some b → sets attribute above scope b ≡ false
    none zero b e = subst (λ (y : Alternative). sets attribute above scope y ≡ false) (some-same x b e) unset
    none (suc place) b e = h place b e
passed attribute above scope x all (Some a) unset h = record { place = suc h.place; here = h.here; set = h.set; weaker_than_none = weaker; last = last }
  where
    weaker : (other : ℕ) (b : Alternative) → slice_get (x ∷ all) other ≡ Some b → sets attribute above scope b ≡ true → is_weaker a.words b.words ≡ false
    weaker zero b e s = let n : sets attribute above scope b ≡ false = subst (λ (y : Alternative). sets attribute above scope y ≡ false) (some-same x b e) unset in cc
    weaker (suc other) b e s = h.weaker_than_none other b e s

    last : (other : ℕ) (b : Alternative) → suc h.place < other → slice_get (x ∷ all) other ≡ Some b → sets attribute above scope b ≡ true → is_weaker b.words a.words ≡ true
    last zero b lt e s = absurd (omega arith)
    last (suc other) b lt e s = h.last other b (omega arith) e s

-- the one in front wins
wins : (attribute : Attribute) (above : List (List ℕ)) (scope : List ℕ) (x : Alternative) (all : List Alternative) → sets attribute above scope x ≡ true →
    ((place : ℕ) (b : Alternative) → slice_get all place ≡ Some b → sets attribute above scope b ≡ true → is_weaker b.words x.words ≡ true) → IsStrongest attribute above scope (x ∷ all) x
wins attribute above scope x all hit h = record { place = 0; here = refl; set = hit; weaker_than_none = weaker; last = last }
  where
    weaker : (other : ℕ) (b : Alternative) → slice_get (x ∷ all) other ≡ Some b → sets attribute above scope b ≡ true → is_weaker x.words b.words ≡ false
    weaker zero b e s = ap (λ (y : Alternative). is_weaker x.words y.words) (sym (some-same x b e)) ∙ not-itself x.words
    weaker (suc other) b e s = asymmetric b.words x.words (h other b e s)

    last : (other : ℕ) (b : Alternative) → 0 < other → slice_get (x ∷ all) other ≡ Some b → sets attribute above scope b ≡ true → is_weaker b.words x.words ≡ true
    last zero b lt e s = absurd (omega arith)
    last (suc other) b lt e s = h other b e s

-- the one in front loses
loses : (attribute : Attribute) (above : List (List ℕ)) (scope : List ℕ) (x a : Alternative) (all : List Alternative) → is_weaker a.words x.words ≡ false →
    IsStrongest attribute above scope all a → IsStrongest attribute above scope (x ∷ all) a
loses attribute above scope x a all unset h = record { place = suc h.place; here = h.here; set = h.set; weaker_than_none = weaker; last = last }
  where
    weaker : (other : ℕ) (b : Alternative) → slice_get (x ∷ all) other ≡ Some b → sets attribute above scope b ≡ true → is_weaker a.words b.words ≡ false
    weaker zero b e s = ap (λ (y : Alternative). is_weaker a.words y.words) (sym (some-same x b e)) ∙ unset
    weaker (suc other) b e s = h.weaker_than_none other b e s

    last : (other : ℕ) (b : Alternative) → suc h.place < other → slice_get (x ∷ all) other ≡ Some b → sets attribute above scope b ≡ true → is_weaker b.words a.words ≡ true
    last zero b lt e s = absurd (omega arith)
    last (suc other) b lt e s = h.last other b (omega arith) e s

one-more : (attribute : Attribute) (above : List (List ℕ)) (scope : List ℕ) (x : Alternative) (all : List Alternative) (o : Option Alternative) → sets attribute above scope x ≡ true →
    IsAnswer attribute above scope all o → IsStrongest attribute above scope (x ∷ all) (stronger x o)
unfolding IsAnswer
one-more attribute above scope x all None hit h = wins attribute above scope x all hit (λ place b e s. let n : sets attribute above scope b ≡ false = h place b e in cc)
one-more attribute above scope x all (Some a) hit h = go (is_weaker a.words x.words) refl
  where
    go : (b : Bool) → is_weaker a.words x.words ≡ b → IsStrongest attribute above scope (x ∷ all) (if b then x else a)
    go true w = wins attribute above scope x all hit (λ place b e s. between a.words x.words b.words w (h.weaker_than_none place b e s))
    go false w = loses attribute above scope x a all w h

answer : (attribute : Attribute) (above : List (List ℕ)) (scope : List ℕ) (all : List Alternative) → IsAnswer attribute above scope all (strongest attribute above scope all)
unfolding IsAnswer
answer attribute above scope [] = λ place b e. cc
answer attribute above scope (x ∷ all) = go (strongest attribute above scope all) (answer attribute above scope all) (sets attribute above scope x) refl
  where
    go : (o : Option Alternative) → IsAnswer attribute above scope all o → (b : Bool) → sets attribute above scope x ≡ b → IsAnswer attribute above scope (x ∷ all) (if b then Some (stronger x o) else o)
    go o h true e = one-more attribute above scope x all o e h
    go o h false e = passed attribute above scope x all o e h

pub by-strength : IsByStrength
unfolding IsAnswer
by-strength = answer
