-- Digits are read exactly as they are spelled.
use Rattle.std.proofs.Common.{◌≡◌, ℕ, zero, suc, ◌+◌, ◌-◌, ◌*◌, ◌^◌, ◌<◌, ◌≤◌, Bool, true, false, ◌&&◌, cond, List, [], ◌∷◌, ◌++◌, length, Some, None, refl, sym, ap, ◌∙◌, subst, inl, inr, arith, le-leb, leb-true}
use Rattle.std.specs.Prelude.{◌==◌, nat_le, nat_lt}
use Rattle.std.specs.List.{list_all}
use Rattle.std.specs.Char.{is_digit, digit_value}
use Rattle.std.specs.Str.Parse.{digits_value, digits_value_after}
use Rattle.std.proofs.lemmas.Bool.{cases_Bool, eqb-true, and_parts}
use Rattle.std.proofs.Math.Nat.{pow-suc, mul-le-mul_left}
use Rattle.std.proofs.lemmas.Bool.Decides.{nat_tests}
use Rattle.tm_onig_class.specs.Members.{IsChar, is_char}
use Rattle.tm_onig_atom.specs.Escapes.{begins, begins_digit, AreDigits, EndsDigits}
use Rattle.tm_onig_atom.specs.inner.Reading.{digits_at, with_text, by_number, closed_number, braced_at, hex_at}
use Rattle.tm_onig_atom.proofs.Texts.{chosen}

-- no more
nothing_more : (k : ℕ) → k ≡ 0 + k
nothing_more k = omega arith

-- further digits need more room
rises : (k n : ℕ) → 16 ^ k ≤ 16 ^ (n + k)
rises k zero = subst (λ m. 16 ^ k ≤ 16 ^ m) (nothing_more k) (omega arith)
rises k (suc n) =
    let more = rises k n in
    let e : 16 ^ (suc n + k) ≡ 16 ^ (n + k) * 16 = ap (λ m. 16 ^ m) (sum n k) ∙ pow-suc 16 (n + k) in
    omega (arith, more, e)
  where
    sum : (n k : ℕ) → suc n + k ≡ suc (n + k)
    sum n k = omega arith

-- no number of five digits is greater
pub fits : (v k : ℕ) → v < 16 ^ k → k < 6 → v < 0x100000
fits v k h lt =
    let e : (5 - k) + k ≡ 5 = omega (arith, lt) in
    let room : 16 ^ k ≤ 0x100000 = subst (λ m. 16 ^ k ≤ 16 ^ m) e (rises k (5 - k)) in
    omega (arith, h, room)

-- one digit more
pub one_digit : (v base d : ℕ) → base ≤ 16 → d < base → v * base + d < v * 16 + 16
one_digit v base d low less = let e = mul-le-mul_left v low in omega (arith, e, less)

-- a number with one digit more
pub longer : (v k base d : ℕ) → v < 16 ^ k → base ≤ 16 → d < base → v * base + d < 16 ^ (k + 1)
longer v k base d h low less =
    let e : 16 ^ (k + 1) ≡ 16 ^ k * 16 = ap (λ m. 16 ^ m) (sum k) ∙ pow-suc 16 k in
    let one = one_digit v base d low less in
    omega (arith, h, e, one)
  where
    sum : (k : ℕ) → k + 1 ≡ suc k
    sum k = omega arith

-- what is read of digits, and the text behind them
abbrev pub Digits : Type 0
Digits = (ℕ × ℕ) × List ℕ

-- where no digit follows, or enough were read
digits_end : (base most v k : ℕ) (rest : List ℕ) → (k < most → begins_digit base rest ≡ false) → ◌≡◌ {A = Digits} (digits_at base most v k rest) ((v, k), rest)
unfolding digits_at
digits_end base most v k [] ends = refl
digits_end base most v k (c ∷ t) ends = elim (cases_Bool (nat_lt k most)) [
  | inl less ↦ let is : k < most = grind (arith, nat_tests) in rw (less, ends is) refl
  | inr enough ↦ rw enough refl
]

-- digits that are written are read
pub digits_again : (base most : ℕ) (ds : List ℕ) (v k n : ℕ) (rest : List ℕ) → list_all (λ c. is_digit c base) ds ≡ true → k + length ds ≡ n → n ≤ most →
    (n < most → begins_digit base rest ≡ false) → ◌≡◌ {A = Digits} (digits_at base most v k (ds ++ rest)) ((digits_value_after base v ds, n), rest)
unfolding digits_at
digits_again base most [] v k n rest all sum few ends = let same : k ≡ n = omega (arith, sum) in rw (sym same) (digits_end base most v k rest (rw same ends))
digits_again base most (c ∷ ds) v k n rest all sum few ends =
    let parts = and_parts (is_digit c base) (list_all (λ c. is_digit c base) ds) all in
    let less : nat_lt k most ≡ true = le-leb (suc k) most (omega (arith, sum, few)) in
    rw (less, parts.0) (digits_again base most ds (v * base + digit_value c) (k + 1) n rest parts.1 (omega (arith, sum)) few ends)

-- The digits at the front.
pub record Found (base most v k : ℕ) (t : List ℕ) : Type 0 where
  pub digits : List ℕ
  pub count : ℕ
  pub rest : List ℕ
  pub whole : t ≡ digits ++ rest
  pub all : list_all (λ c. is_digit c base) digits ≡ true
  pub sum : k + length digits ≡ count
  pub few : count ≤ most
  pub ends : count < most → begins_digit base rest ≡ false
  pub is : ◌≡◌ {A = Digits} (digits_at base most v k t) ((digits_value_after base v digits, count), rest)

-- none
found_none : (base most v k : ℕ) (t : List ℕ) → k ≤ most → (k < most → begins_digit base t ≡ false) → Found base most v k t
found_none base most v k t few ends = record { digits = []; count = k; rest = t; whole = refl; all = refl; sum = omega arith; few = few; ends = ends; is = digits_end base most v k t ends }

-- one more
found_more : (base most v k c : ℕ) (t : List ℕ) → nat_lt k most ≡ true → is_digit c base ≡ true → Found base most (v * base + digit_value c) (k + 1) t → Found base most v k (c ∷ t)
unfolding digits_at
found_more base most v k c t less is f = record {
  digits = c ∷ f.digits;
  count = f.count;
  rest = f.rest;
  whole = ap (λ u. c ∷ u) f.whole;
  all = rw is f.all;
  sum = omega (arith, f.sum);
  few = f.few;
  ends = f.ends;
  is = rw (less, is) f.is;
}

-- the digits at the front of any text
pub digits_found : (base most v k : ℕ) (t : List ℕ) → k ≤ most → Found base most v k t
digits_found base most v k [] few = found_none base most v k [] few (λ h. refl)
digits_found base most v k (c ∷ t) few = elim (cases_Bool (nat_lt k most)) [
  | inr enough ↦ found_none base most v k (c ∷ t) few (λ h. let no : nat_lt k most ≡ true = le-leb (suc k) most h in absurd cc)
  | inl less ↦ elim (cases_Bool (is_digit c base)) [
    | inl is ↦ let lt = leb-true (suc k) most less in found_more base most v k c t less is (digits_found base most (v * base + digit_value c) (k + 1) t (omega (arith, lt)))
    | inr none ↦ found_none base most v k (c ∷ t) few (λ h. none)
  ]
]

-- all the digits of a number that is read from its first one
sum_zero : (n : ℕ) → 0 + n ≡ n
sum_zero n = omega arith

-- the test for a character
pub char_is : (n : ℕ) → IsChar n → is_char n ≡ true
char_is n h = grind (arith, nat_tests)

-- the test for a character, the other way round
pub is_char-IsChar : (n : ℕ) → is_char n ≡ true → IsChar n
is_char-IsChar n h = grind (arith, nat_tests)

-- a number that is a character's
numbered_again : (least n k : ℕ) (t : List ℕ) → least ≤ k → IsChar n → by_number least ((n, k), t) ≡ Some (n, t)
numbered_again least n k t enough is = rw (le-leb least k enough, char_is n is) refl

-- digits for a character are read
pub number_again : (base least most : ℕ) (ds rest : List ℕ) → AreDigits base least most ds → EndsDigits base most ds rest → IsChar (digits_value base ds) →
    by_number least (digits_at base most 0 0 (ds ++ rest)) ≡ Some (digits_value base ds, rest)
number_again base least most ds rest are ends is =
    ap (by_number least) (digits_again base most ds 0 0 (length ds) rest are.0 (sum_zero (length ds)) are.2 ends) ∙ numbered_again least (digits_value base ds) (length ds) rest are.1 is

-- The number that was read.
pub record Numbered (base least most : ℕ) (t : List ℕ) (value : ℕ) (rest : List ℕ) : Type 0 where
  pub digits : List ℕ
  pub whole : t ≡ digits ++ rest
  pub are : AreDigits base least most digits
  pub ends : EndsDigits base most digits rest
  pub is : IsChar (digits_value base digits)
  pub means : digits_value base digits ≡ value

-- a number that was taken
numbered_found : (least n k : ℕ) (t : List ℕ) (value : ℕ) (rest : List ℕ) → by_number least ((n, k), t) ≡ Some (value, rest) → (least ≤ k) × IsChar n × (n ≡ value) × (t ≡ rest)
numbered_found least n k t value rest e = by_test (nat_le least k && is_char n) refl e
  where
    by_test : (b : Bool) → (nat_le least k && is_char n) ≡ b → with_text t (cond b (Some n) None) ≡ Some (value, rest) → (least ≤ k) × IsChar n × (n ≡ value) × (t ≡ rest)
    by_test true h e = let parts = and_parts (nat_le least k) (is_char n) h in
        let p : ◌≡◌ {A = ℕ × List ℕ} (n, t) (value, rest) = cc in
        (leb-true least k parts.0, is_char-IsChar n parts.1, ap (λ (p : ℕ × List ℕ). p.0) p, ap (λ (p : ℕ × List ℕ). p.1) p)
    by_test false h e = absurd cc

-- a number that is read is spelled so
pub number_found : (base least most : ℕ) (t : List ℕ) (value : ℕ) (rest : List ℕ) → by_number least (digits_at base most 0 0 t) ≡ Some (value, rest) → Numbered base least most t value rest
number_found base least most t value rest e =
    let f = digits_found base most 0 0 t (omega arith) in
    let count = sym (sum_zero (length f.digits)) ∙ f.sum in
    let g = numbered_found least (digits_value base f.digits) f.count f.rest value rest (sym (ap (by_number least) f.is) ∙ e) in
    subst (λ r. Numbered base least most t value r) g.3
    (record { digits = f.digits; whole = f.whole; are = (f.all, (omega (arith, count, g.0)), (omega (arith, count, f.few))); ends = λ h. f.ends (omega (arith, count, h)); is = g.1; means = g.2 })

-- a digit is no brace
digit_no_brace : (d base : ℕ) → base ≤ 36 → is_digit d base ≡ true → (d == 123) ≡ false
digit_no_brace d base low e = grind (arith, nat_tests)

-- what begins with a digit begins with no brace
digits_no_brace : (ds rest : List ℕ) → AreDigits 16 1 2 ds → begins 123 (ds ++ rest) ≡ false
digits_no_brace [] rest are = absurd (omega (arith, are.1))
digits_no_brace (d ∷ ds) rest are = let parts = and_parts (is_digit d 16) (list_all (λ c. is_digit c 16) ds) are.0 in digit_no_brace d 16 (omega arith) parts.0

-- one or two digits behind `x`
pub hex_again : (ds rest : List ℕ) → AreDigits 16 1 2 ds → EndsDigits 16 2 ds rest → IsChar (digits_value 16 ds) → hex_at (ds ++ rest) ≡ Some (digits_value 16 ds, rest)
unfolding hex_at
hex_again ds rest are ends is = rw (digits_no_brace ds rest are) (number_again 16 1 2 ds rest are ends is)

-- digits between braces behind `x`
pub braced_again : (ds rest : List ℕ) → AreDigits 16 1 6 ds → IsChar (digits_value 16 ds) → hex_at (123 ∷ (ds ++ 125 ∷ rest)) ≡ Some (digits_value 16 ds, rest)
unfolding hex_at braced_at
braced_again ds rest are is =
    ap closed_number (digits_again 16 6 ds 0 0 (length ds) (125 ∷ rest) are.0 (sum_zero (length ds)) are.2 (λ h. refl)) ∙ numbered_again 1 (digits_value 16 ds) (length ds) rest are.1 is

-- The number between braces that was read.
pub record Closed (t : List ℕ) (value : ℕ) (rest : List ℕ) : Type 0 where
  pub digits : List ℕ
  pub whole : t ≡ digits ++ 125 ∷ rest
  pub are : AreDigits 16 1 6 digits
  pub is : IsChar (digits_value 16 digits)
  pub means : digits_value 16 digits ≡ value

-- the brace
closed_found : (n k : ℕ) (u : List ℕ) (value : ℕ) (rest : List ℕ) → closed_number ((n, k), u) ≡ Some (value, rest) → (u ≡ 125 ∷ rest) × (1 ≤ k) × IsChar n × (n ≡ value)
closed_found n k [] value rest e = absurd cc
closed_found n k (c ∷ u) value rest e = elim (chosen (c == 125) _ _ _ e) [
  | inl h ↦
      let g = numbered_found 1 n k u value rest h.1 in
      (ap (λ d. d ∷ u) (eqb-true c 125 h.0) ∙ ap (λ v. 125 ∷ v) g.3, g.0, g.1, g.2)
  | inr h ↦ absurd cc
]

-- digits between braces that are read
pub braced_found : (t : List ℕ) (value : ℕ) (rest : List ℕ) → braced_at t ≡ Some (value, rest) → Closed t value rest
unfolding braced_at
braced_found t value rest e =
    let f = digits_found 16 6 0 0 t (omega arith) in
    let count = sym (sum_zero (length f.digits)) ∙ f.sum in
    let g = closed_found (digits_value 16 f.digits) f.count f.rest value rest (sym (ap closed_number f.is) ∙ e) in
    record { digits = f.digits; whole = f.whole ∙ ap (λ u. f.digits ++ u) g.0; are = (f.all, (omega (arith, count, g.1)), (omega (arith, count, f.few))); is = g.2; means = g.3 }
