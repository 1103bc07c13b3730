-- Names, and numbers without bounds, are read exactly as they are spelled.
use Rattle.std.proofs.Common.{◌≡◌, ℕ, true, false, List, [], ◌∷◌, ◌++◌, Option, Some, refl, ap, ◌∙◌, subst, inl, inr, arith}
use Rattle.std.specs.Prelude.{nat_lt}
use Rattle.std.specs.List.{list_all}
use Rattle.std.specs.Char.{is_ascii_digit, digit_value}
use Rattle.std.specs.Str.Parse.{digits_value}
use Rattle.std.proofs.lemmas.Bool.{cases_Bool, eqb-true, eq-eqb, and_parts}
use Rattle.std.proofs.lemmas.Bool.Decides.{nat_tests}
use Rattle.std.proofs.lemmas.Option.{cond_some}
use Rattle.tm_onig_atom.specs.Escapes.{begins}
use Rattle.tm_onig_atom.specs.inner.Reading.{rest_of}
use Rattle.tm_onig_parse.specs.Names.{is_name_char, starts_name, IsName, begins_digit}
use Rattle.tm_onig_parse.specs.inner.Reading.{limited, with_digit, number_at, name_at, name_to}
use Rattle.tm_onig_parse.proofs.BoundsValues.{digit_below, longer, longer-limited}

-- the characters of a name up to one that is none
name_again : (name : List ℕ) (c : ℕ) (t : List ℕ) → list_all is_name_char name ≡ true → is_name_char c ≡ false → ◌≡◌ {A = List ℕ × List ℕ} (name_at (name ++ c ∷ t)) (name, c ∷ t)
unfolding name_at
name_again [] c t all none = rw none refl
name_again (d ∷ name) c t all none =
    let parts = and_parts (is_name_char d) (list_all is_name_char name) all in
    rw (parts.0, name_again name c t parts.1 none) refl

-- A name that is written is read.
pub name_to_again : (d : ℕ) (name t : List ℕ) → IsName name → is_name_char d ≡ false → ◌≡◌ {A = Option (List ℕ × List ℕ)} (name_to d (name ++ d ∷ t)) (Some (name, t))
name_to_again d name t is none = rw (name_again name d t is.0 none, is.1, eq-eqb d d refl) refl

-- the characters of a name that are read
name_found : (t : List ℕ) → (t ≡ (name_at t).0 ++ (name_at t).1) × (list_all is_name_char (name_at t).0 ≡ true)
unfolding name_at
name_found [] = (refl, refl)
name_found (c ∷ t) = elim (cases_Bool (is_name_char c)) [
  | inl h ↦ let more = name_found t in rw h (ap (λ u. c ∷ u) more.0, (rw h more.1))
  | inr h ↦ rw h (refl, refl)
]

-- the front of a text
begins_rest : (d : ℕ) (t : List ℕ) → begins d t ≡ true → t ≡ d ∷ rest_of t
begins_rest d [] e = absurd cc
begins_rest d (c ∷ t) e = ap (λ x. x ∷ t) (eqb-true c d e)

-- one pair in both
same_parts : (x y : List ℕ × List ℕ) → x ≡ y → (x.0 ≡ y.0) × (x.1 ≡ y.1)
same_parts x y e = (ap (λ (p : List ℕ × List ℕ). p.0) e, ap (λ (p : List ℕ × List ℕ). p.1) e)

-- A name that is read is written.
pub name_to_found : (d : ℕ) (t name rest : List ℕ) → ◌≡◌ {A = Option (List ℕ × List ℕ)} (name_to d t) (Some (name, rest)) → (t ≡ name ++ d ∷ rest) × IsName name
name_to_found d t name rest e =
    let c = cond_some _ _ _ e in
    let tests = and_parts (starts_name (name_at t).0) (begins d (name_at t).1) c.0 in
    let found = name_found t in
    let parts = same_parts ((name_at t).0, rest_of (name_at t).1) (name, rest) c.1 in (
      found.0 ∙ ap (λ u. (name_at t).0 ++ u) (begins_rest d (name_at t).1 tests.1) ∙ ap (λ u. (name_at t).0 ++ d ∷ u) parts.1 ∙ ap (λ u. u ++ d ∷ rest) parts.0,
      subst IsName parts.0 (found.1, tests.0),
    )

-- what is no digit has no digit's value
no_digit : (c : ℕ) → is_ascii_digit c ≡ false → nat_lt (digit_value c) 10 ≡ false
no_digit c e = grind (arith, nat_tests)

-- digits up to what is none
digits_read : (ds : List ℕ) (n : Option ℕ) (rest : List ℕ) → list_all is_ascii_digit ds ≡ true → begins_digit rest ≡ false →
    ◌≡◌ {A = Option ℕ × List ℕ} (number_at n (ds ++ rest)) (longer n ds, rest)
unfolding number_at
digits_read [] n [] all none = refl
digits_read [] n (c ∷ t) all none = rw (no_digit c none) refl
digits_read (d ∷ ds) n rest all none =
    let parts = and_parts (is_ascii_digit d) (list_all is_ascii_digit ds) all in
    rw (digit_below d parts.0) (digits_read ds (with_digit n (digit_value d)) rest parts.1 none)

-- A number that is written is read, if it is not above the limit.
pub number_again : (ds rest : List ℕ) → list_all is_ascii_digit ds ≡ true → begins_digit rest ≡ false →
    ◌≡◌ {A = Option ℕ × List ℕ} (number_at (Some 0) (ds ++ rest)) (limited (digits_value 10 ds), rest)
number_again ds rest all none = digits_read ds (Some 0) rest all none ∙ ap (λ (n : Option ℕ). (n, rest)) (longer-limited ds 0)

-- The digits at the front.
pub record Digits (t : List ℕ) : Type 0 where
  pub digits : List ℕ
  pub rest : List ℕ
  pub whole : t ≡ digits ++ rest
  pub all : list_all is_ascii_digit digits ≡ true
  pub ends : begins_digit rest ≡ false

-- one digit more
more_digits : (c : ℕ) (t : List ℕ) → is_ascii_digit c ≡ true → Digits t → Digits (c ∷ t)
more_digits c t is d = record { digits = c ∷ d.digits; rest = d.rest; whole = ap (λ u. c ∷ u) d.whole; all = rw is d.all; ends = d.ends }

-- A text is digits and what follows.
pub digits_of : (t : List ℕ) → Digits t
digits_of [] = record { digits = []; rest = []; whole = refl; all = refl; ends = refl }
digits_of (c ∷ t) = elim (cases_Bool (is_ascii_digit c)) [
  | inl h ↦ more_digits c t h (digits_of t)
  | inr h ↦ record { digits = []; rest = c ∷ t; whole = refl; all = refl; ends = h }
]

-- The number that is read is that of the digits.
pub number_found : (t : List ℕ) (d : Digits t) → ◌≡◌ {A = Option ℕ × List ℕ} (number_at (Some 0) t) (limited (digits_value 10 d.digits), d.rest)
number_found t d = ap (number_at (Some 0)) d.whole ∙ number_again d.digits d.rest d.all d.ends

-- a digit at the front is one of the digits
pub some_digits : (c : ℕ) (t : List ℕ) → is_ascii_digit c ≡ true → (d : Digits (c ∷ t)) → (more : List ℕ) × (d.digits ≡ c ∷ more)
some_digits c t is d = front d.digits d.rest d.whole d.ends
  where
    front : (ds rest : List ℕ) → c ∷ t ≡ ds ++ rest → begins_digit rest ≡ false → (more : List ℕ) × (ds ≡ c ∷ more)
    front [] rest e none = let at : begins_digit (c ∷ t) ≡ false = ap begins_digit e ∙ none in absurd cc
    front (x ∷ ds) rest e none = (ds, ap (λ y. y ∷ ds) (first_same x ds rest e))
      where
        first_same : (x : ℕ) (ds rest : List ℕ) → c ∷ t ≡ (x ∷ ds) ++ rest → x ≡ c
        first_same x ds rest e = cc
