-- Bounds are seen exactly where they are written.
use Rattle.std.proofs.Common.{◌≡◌, ℕ, ◌+◌, ◌<◌, Bool, true, false, ◌&&◌, ◌||◌, List, [], ◌∷◌, ◌++◌, length, refl, sym, ap, ◌∙◌, subst, inl, inr, arith, append_assoc}
use Rattle.std.specs.Prelude.{◌==◌}
use Rattle.std.specs.List.{list_all}
use Rattle.std.specs.Char.{is_ascii_digit}
use Rattle.std.proofs.lemmas.Bool.{cases_Bool, eqb-true, and_parts, both_ways}
use Rattle.tm_onig_parse.specs.Intervals.{Bounds, Exactly, Between, bounds_text, IsBounds, NoBounds}
use Rattle.tm_onig_parse.specs.inner.Reading.{digits_at, ends_bounds, after_digits, bounds_at}
use Rattle.tm_onig_atom.proofs.Texts.{chosen}

-- there are some
abbrev some_of : List ℕ → Bool
some_of [] = false
some_of (d ∷ ds) = true

-- so there are more than 0
some_length : (ds : List ℕ) → some_of ds ≡ true → 0 < length ds
some_length [] e = absurd cc
some_length (d ∷ ds) e = omega arith

-- more than 0 are some
length_some : (ds : List ℕ) → 0 < length ds → some_of ds ≡ true
length_some [] h = absurd (omega arith)
length_some (d ∷ ds) h = refl

-- true is either
or_true : (b : Bool) → (b || true) ≡ true
or_true true = refl
or_true false = refl

-- false adds nothing
or_false : (b : Bool) → (b || false) ≡ b
or_false true = refl
or_false false = refl

-- digits up to a character that is none
digits_again : (ds : List ℕ) (some : Bool) (c : ℕ) (t : List ℕ) → list_all is_ascii_digit ds ≡ true → is_ascii_digit c ≡ false →
    ◌≡◌ {A = Bool × List ℕ} (digits_at some (ds ++ c ∷ t)) (some || some_of ds, c ∷ t)
unfolding digits_at
digits_again [] some c t all none = rw (none, or_false some) refl
digits_again (d ∷ ds) some c t all none =
    let parts = and_parts (is_ascii_digit d) (list_all is_ascii_digit ds) all in
    rw (parts.0, or_true some) (digits_again ds true c t parts.1 none)

-- The digits at the front.
record Digits (some : Bool) (t : List ℕ) : Type 0 where
  digits : List ℕ
  rest : List ℕ
  whole : t ≡ digits ++ rest
  all : list_all is_ascii_digit digits ≡ true
  is : ◌≡◌ {A = Bool × List ℕ} (digits_at some t) (some || some_of digits, rest)

-- one digit more
digits_more : (some : Bool) (c : ℕ) (t : List ℕ) → is_ascii_digit c ≡ true → Digits true t → Digits some (c ∷ t)
unfolding digits_at
digits_more some c t is d = record {
  digits = c ∷ d.digits;
  rest = d.rest;
  whole = ap (λ u. c ∷ u) d.whole;
  all = rw is d.all;
  is = rw (is, or_true some) d.is;
}

-- the digits at the front of any text
digits_found : (some : Bool) (t : List ℕ) → Digits some t
unfolding digits_at
digits_found some [] = record { digits = []; rest = []; whole = refl; all = refl; is = rw (or_false some) refl }
digits_found some (c ∷ t) = elim (cases_Bool (is_ascii_digit c)) [
  | inl is ↦ digits_more some c t is (digits_found true t)
  | inr none ↦ record { digits = []; rest = c ∷ t; whole = refl; all = refl; is = rw (none, or_false some) refl }
]

-- Bounds that are written are seen.
pub bounds_again : (b : Bounds) (more : List ℕ) → IsBounds b → bounds_at (bounds_text b ++ more) ≡ true
unfolding bounds_at
bounds_again (Exactly n) more is =
    let at = ap after_digits (digits_again n false 125 more is.0 refl) in
    ap bounds_at (append_assoc n (125 ∷ []) more) ∙ at ∙ (rw (length_some n is.1) refl)
bounds_again (Between n m) more is =
    let at = ap after_digits (digits_again n false 44 (m ++ 125 ∷ more) is.0 refl) in
    let then = ap ends_bounds (digits_again m (some_of n) 125 more is.1 refl) in
    ap bounds_at (append_assoc n (44 ∷ (m ++ 125 ∷ [])) more ∙ ap (λ u. n ++ 44 ∷ u) (append_assoc m (125 ∷ []) more))
    ∙ at ∙ then ∙ (rw (some_either n m is.2) refl)
  where
    some_either : (n m : List ℕ) → 0 < length n + length m → (some_of n || some_of m) ≡ true
    some_either [] [] h = absurd (omega arith)
    some_either [] (d ∷ ds) h = refl
    some_either (d ∷ ds) m h = refl

-- Bounds are written at the front.
pub record Bounded (t : List ℕ) : Type 0 where
  pub bounds : Bounds
  pub more : List ℕ
  pub is : IsBounds bounds
  pub whole : t ≡ bounds_text bounds ++ more

-- some on one side are more than 0
either_length : (n m : List ℕ) → (some_of n || some_of m) ≡ true → 0 < length n + length m
either_length [] [] e = absurd cc
either_length [] (d ∷ ds) e = omega arith
either_length (d ∷ ds) m e = omega arith

-- a brace behind the digits
exactly : (n t : List ℕ) (c : ℕ) → list_all is_ascii_digit n ≡ true → some_of n && (c == 125) ≡ true → Bounded (n ++ c ∷ t)
exactly n t c all e =
    let parts = and_parts (some_of n) (c == 125) e in
    record { bounds = Exactly n; more = t; is = (all, some_length n parts.0); whole = ap (λ d. n ++ d ∷ t) (eqb-true c 125 parts.1) ∙ sym (append_assoc n (125 ∷ []) t) }

-- a brace behind the digits that a comma precedes
between_in : (n m rest : List ℕ) → list_all is_ascii_digit n ≡ true → list_all is_ascii_digit m ≡ true → ends_bounds (some_of n || some_of m, rest) ≡ true → Bounded (n ++ 44 ∷ (m ++ rest))
between_in n m [] alln allm e = let parts = and_parts (some_of n || some_of m) false e in absurd (both_ways _ refl parts.1)
between_in n m (c ∷ t) alln allm e =
    let parts = and_parts (some_of n || some_of m) (c == 125) e in
    record {
      bounds = Between n m;
      more = t;
      is = (alln, allm, either_length n m parts.0);
      whole = ap (λ d. n ++ 44 ∷ (m ++ d ∷ t)) (eqb-true c 125 parts.1)
          ∙ sym (append_assoc n (44 ∷ (m ++ 125 ∷ [])) t ∙ ap (λ u. n ++ 44 ∷ u) (append_assoc m (125 ∷ []) t));
    }

-- a comma behind the digits
between : (n t : List ℕ) → list_all is_ascii_digit n ≡ true → ends_bounds (digits_at (some_of n) t) ≡ true → Bounded (n ++ 44 ∷ t)
between n t all e =
    let d = digits_found (some_of n) t in
    subst (λ u. Bounded (n ++ 44 ∷ u)) (sym d.whole) (between_in n d.digits d.rest all d.all (sym (ap ends_bounds d.is) ∙ e))

-- what stands behind the digits
after_found : (n rest : List ℕ) → list_all is_ascii_digit n ≡ true → after_digits (some_of n, rest) ≡ true → Bounded (n ++ rest)
after_found n [] all e = absurd cc
after_found n (c ∷ t) all e = elim (chosen (c == 44) _ _ _ e) [
  | inl h ↦ rw (eqb-true c 44 h.0) (between n t all h.1)
  | inr h ↦ exactly n t c all h.1
]

-- Bounds that are seen are written.
pub bounds_found : (t : List ℕ) → bounds_at t ≡ true → Bounded t
unfolding bounds_at
bounds_found t e =
    let d = digits_found false t in
    subst Bounded (sym d.whole) (after_found d.digits d.rest d.all (sym (ap after_digits d.is) ∙ e))

-- where none are written none are seen
pub no_bounds : (t : List ℕ) → NoBounds t → bounds_at t ≡ false
no_bounds t none = elim (cases_Bool (bounds_at t)) [
  | inl some ↦ let b = bounds_found t some in absurd (none b.bounds b.more b.is b.whole)
  | inr lacks ↦ lacks
]

-- where none are seen none are written
pub lacks_bounds : (t : List ℕ) → bounds_at t ≡ false → NoBounds t
lacks_bounds t lacks b more is whole = both_ways _ lacks (ap bounds_at whole ∙ bounds_again b more is)
