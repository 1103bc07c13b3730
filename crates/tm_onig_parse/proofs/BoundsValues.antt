-- Bounds that are written are read to their numbers.
use Rattle.std.proofs.Common.{◌≡◌, ℕ, ◌+◌, ◌*◌, ◌<◌, ◌≤◌, Bool, true, false, List, [], ◌∷◌, ◌++◌, Option, Some, None, refl, sym, ap, ◌∙◌, arith, append_assoc, le-leb}
use Rattle.std.specs.Prelude.{◌==◌, nat_le, nat_lt, if◌then◌else◌}
use Rattle.std.specs.List.{list_all}
use Rattle.std.specs.Char.{is_ascii_digit, digit_value}
use Rattle.std.specs.Str.Parse.{digits_value, digits_value_after}
use Rattle.std.proofs.lemmas.Bool.{and_parts, leb-true}
use Rattle.std.proofs.lemmas.Bool.Decides.{nat_tests}
use Rattle.std.proofs.lemmas.Option.{cond_some}
use Rattle.tm_onig_parse.specs.Intervals.{Bounds, Exactly, Between, bounds_text, IsBounds, least_in, greatest_in, AreLimited}
use Rattle.tm_onig_parse.specs.inner.Reading.{limited, with_digit, number_at, ordered, second_at, first_at, interval_at}

-- an ASCII digit has a value below 10
pub digit_below : (c : ℕ) → is_ascii_digit c ≡ true → nat_lt (digit_value c) 10 ≡ true
digit_below c e = grind (arith, nat_tests)

-- a number with further digits
abbrev pub longer : Option ℕ → List ℕ → Option ℕ
longer n [] = n
longer n (d ∷ ds) = longer (with_digit n (digit_value d)) ds

-- digits up to a character that is none
digits_read : (ds : List ℕ) (n : Option ℕ) (c : ℕ) (t : List ℕ) → list_all is_ascii_digit ds ≡ true → nat_lt (digit_value c) 10 ≡ false →
    ◌≡◌ {A = Option ℕ × List ℕ} (number_at n (ds ++ c ∷ t)) (longer n ds, c ∷ t)
unfolding number_at
digits_read [] n c t all none = rw none refl
digits_read (d ∷ ds) n c t all none =
    let parts = and_parts (is_ascii_digit d) (list_all is_ascii_digit ds) all in
    rw (digit_below d parts.0) (digits_read ds (with_digit n (digit_value d)) c t parts.1 none)

-- above the limit there is no number
longer_none : (ds : List ℕ) → longer None ds ≡ None
longer_none [] = refl
longer_none (d ∷ ds) = longer_none ds

-- further digits make no number less
at_least : (ds : List ℕ) (n : ℕ) → n ≤ digits_value_after 10 n ds
at_least [] n = omega arith
at_least (d ∷ ds) n = let more = at_least ds (n * 10 + digit_value d) in omega (arith, more)

-- what is above the limit is no number
above : (n : ℕ) → 100000 < n → limited n ≡ None
above n h = let no : nat_le n 100000 ≡ false = grind (arith, nat_tests) in rw no refl

-- what is within it is one
pub below : (n : ℕ) → n ≤ 100000 → limited n ≡ Some n
below n h = rw (le-leb n 100000 h) refl

-- a limited number with further digits is the whole number, limited
pub longer-limited : (ds : List ℕ) (n : ℕ) → longer (limited n) ds ≡ limited (digits_value_after 10 n ds)
longer-limited [] n = refl
longer-limited (d ∷ ds) n = by_test (nat_le n 100000) refl (longer-limited ds (n * 10 + digit_value d))
  where
    by_test : (is : Bool) → nat_le n 100000 ≡ is → longer (limited (n * 10 + digit_value d)) ds ≡ limited (digits_value_after 10 n (d ∷ ds)) →
        longer (with_digit (if is then Some n else None) (digit_value d)) ds ≡ limited (digits_value_after 10 n (d ∷ ds))
    by_test true is more = more
    by_test false is more =
        let big : 100000 < n = grind (arith, nat_tests) in
        let least = at_least (d ∷ ds) n in
        longer_none ds ∙ sym (above (digits_value_after 10 n (d ∷ ds)) (omega (arith, least)))

-- the number at the front
number_again : (ds : List ℕ) (c : ℕ) (t : List ℕ) → list_all is_ascii_digit ds ≡ true → nat_lt (digit_value c) 10 ≡ false →
    ◌≡◌ {A = Option ℕ × List ℕ} (number_at (Some 0) (ds ++ c ∷ t)) (limited (digits_value 10 ds), c ∷ t)
number_again ds c t all none = digits_read ds (Some 0) c t all none ∙ ap (λ (n : Option ℕ). (n, c ∷ t)) (longer-limited ds 0)

-- bounds of one number
abbrev pub is_exact : Bounds → Bool
is_exact (Exactly n) = true
is_exact (Between n m) = false

-- what is read of bounds
abbrev pub Interval : Type 0
Interval = (ℕ × Option ℕ) × (Bool × List ℕ)

-- what is read of these
abbrev pub interval_of : Bounds → List ℕ → Interval
interval_of b more = ((least_in b, greatest_in b), (is_exact b, more))

-- behind the first number
first_again : (n t : List ℕ) (c : ℕ) → list_all is_ascii_digit n ≡ true → nat_lt (digit_value c) 10 ≡ false → interval_at (n ++ c ∷ t) ≡ first_at (limited (digits_value 10 n), c ∷ t)
first_again n t c all none = ap first_at (number_again n c t all none)

-- the text of one number
exact_first : (n more : List ℕ) → list_all is_ascii_digit n ≡ true → interval_at (bounds_text (Exactly n) ++ more) ≡ first_at (limited (digits_value 10 n), 125 ∷ more)
exact_first n more all = ap interval_at (append_assoc n (125 ∷ []) more) ∙ first_again n more 125 all refl

-- the text of two
between_first : (n m more : List ℕ) → list_all is_ascii_digit n ≡ true → interval_at (bounds_text (Between n m) ++ more) ≡ first_at (limited (digits_value 10 n), 44 ∷ (m ++ 125 ∷ more))
between_first n m more all =
    ap interval_at (append_assoc n (44 ∷ (m ++ 125 ∷ [])) more ∙ ap (λ u. n ++ 44 ∷ u) (append_assoc m (125 ∷ []) more))
    ∙ first_again n (m ++ 125 ∷ more) 44 all refl

-- a digit is no brace
digit_no_brace : (d : ℕ) → is_ascii_digit d ≡ true → (d == 125) ≡ false
digit_no_brace d e = grind (arith, nat_tests)

-- behind the comma
second_again : (v d : ℕ) (m more : List ℕ) → list_all is_ascii_digit (d ∷ m) ≡ true → second_at v ((d ∷ m) ++ 125 ∷ more) ≡ ordered v (limited (digits_value 10 (d ∷ m)), 125 ∷ more)
second_again v d m more all =
    let parts = and_parts (is_ascii_digit d) (list_all is_ascii_digit m) all in
    rw (digit_no_brace d parts.0) (ap (ordered v) (number_again (d ∷ m) 125 more all refl))

-- Bounds within the limit are read.
pub interval_again : (b : Bounds) (more : List ℕ) → IsBounds b → AreLimited b → ◌≡◌ {A = Option Interval} (interval_at (bounds_text b ++ more)) (Some (interval_of b more))
interval_again (Exactly n) more is low = exact_first n more is.0 ∙ (rw (below (digits_value 10 n) low) refl)
interval_again (Between n []) more is low = between_first n [] more is.0 ∙ (rw (below (digits_value 10 n) low) refl)
interval_again (Between n (d ∷ m)) more is low =
    let v = digits_value 10 n in
    let w = digits_value 10 (d ∷ m) in
    between_first n (d ∷ m) more is.0
    ∙ ap (λ o. first_at (o, 44 ∷ ((d ∷ m) ++ 125 ∷ more))) (below v (omega (arith, low.0, low.1)))
    ∙ second_again v d m more is.1
    ∙ ap (λ o. ordered v (o, 125 ∷ more)) (below w low.1)
    ∙ (rw (le-leb v w low.0) refl)

-- a number that was read is within the limit
pub limited_found : {A : Type 0} (v : ℕ) (f : Option ℕ → Option A) (x : A) → f None ≡ None → f (limited v) ≡ Some x → (v ≤ 100000) × (f (Some v) ≡ Some x)
limited_found v f x none e = by_test (nat_le v 100000) refl e
  where
    by_test : (is : Bool) → nat_le v 100000 ≡ is → f (if is then Some v else None) ≡ Some x → (v ≤ 100000) × (f (Some v) ≡ Some x)
    by_test true is e = (leb-true _ _ is, e)
    by_test false is e = absurd cc

-- Bounds were read within the limit, to this.
pub record Within (b : Bounds) (more : List ℕ) (x : Interval) : Type 0 where
  pub low : AreLimited b
  pub is : interval_of b more ≡ x

-- one value in both
same_interval : (x y : Interval) → Some x ≡ Some y → x ≡ y
same_interval x y e = cc

-- two numbers
between_found : (v d : ℕ) (m more : List ℕ) (x : Interval) → list_all is_ascii_digit (d ∷ m) ≡ true → second_at v ((d ∷ m) ++ 125 ∷ more) ≡ Some x →
    (v ≤ digits_value 10 (d ∷ m)) × (digits_value 10 (d ∷ m) ≤ 100000) × (((v, Some (digits_value 10 (d ∷ m))), (false, more)) ≡ x)
between_found v d m more x all e =
    let w = digits_value 10 (d ∷ m) in
    let f = limited_found w (λ o. ordered v (o, 125 ∷ more)) x refl (sym (second_again v d m more all) ∙ e) in
    let c = cond_some _ _ _ f.1 in
    (leb-true v w c.0, f.0, c.1)

-- Bounds that are read are within the limit.
pub interval_found : (b : Bounds) (more : List ℕ) (x : Interval) → IsBounds b → interval_at (bounds_text b ++ more) ≡ Some x → Within b more x
interval_found (Exactly n) more x is e =
    let f = limited_found (digits_value 10 n) (λ o. first_at (o, 125 ∷ more)) x refl (sym (exact_first n more is.0) ∙ e) in
    record { low = f.0; is = same_interval _ _ f.1 }
interval_found (Between n []) more x is e =
    let f = limited_found (digits_value 10 n) (λ o. first_at (o, 44 ∷ 125 ∷ more)) x refl (sym (between_first n [] more is.0) ∙ e) in
    record { low = f.0; is = same_interval _ _ f.1 }
interval_found (Between n (d ∷ m)) more x is e =
    let f = limited_found (digits_value 10 n) (λ o. first_at (o, 44 ∷ ((d ∷ m) ++ 125 ∷ more))) x refl (sym (between_first n (d ∷ m) more is.0) ∙ e) in
    let g = between_found (digits_value 10 n) d m more x is.1 f.1 in
    record { low = (g.0, g.1); is = g.2 }
