-- The two forms of references: what stands at the front is what is spelled there.
use Rattle.std.proofs.Common.{◌≡◌, ◌≢◌, ℕ, ◌<◌, Bool, true, false, cond, List, [], ◌∷◌, ◌++◌, length, drop, Option, Some, None, refl, sym, ap, ◌∙◌, subst, inl, inr, ◌⊎◌, arith, append_assoc}
use Rattle.std.specs.Prelude.{◌==◌, nat_eq}
use Rattle.std.specs.List.{list_all, starts_with}
use Rattle.std.specs.Char.{is_ascii_digit}
use Rattle.std.proofs.lemmas.Bool.{cases_Bool, eqb-true, and_parts}
use Rattle.std.proofs.lemmas.List.Sums.{take_while-cons}
use Rattle.std.proofs.lemmas.Bool.Decides.{Decides-eqb}
use Rattle.std.proofs.lemmas.Slice.Eq.{starts_is}
use Rattle.std.proofs.Math.Seq.{drop-append_seam}
use Rattle.tm_template.specs.declared.references.Manner.{Manner}
use Rattle.tm_template.specs.declared.references.Manner.TheVariants.{AsCaptured, Downcase, Upcase}
use Rattle.tm_template.specs.References.{Reference, reference, Form, name_form, end_form, digits_of, referring, manner_text, manner_at, cased, braced_at, dollar_at, name_reference, end_reference, name_spelling, end_spelling, in_braces}
use Rattle.tm_template.specs.Ends.{begins_digit}
use Rattle.tm_template.specs.Laws.{AreDigits, EndsBefore, StandsBefore}
use Rattle.tm_template.proofs.Digits.{cut, behind, digits_again, referring_some, referring_digits}

-- a reference of the form stands at the front of the text
pub record Found (form : Form) (t : List ℕ) (r : Reference) : Type 0 where
  pub rest : List ℕ
  pub whole : t ≡ form.spelling r ++ rest
  pub stands : StandsBefore form r rest

-- the form finds what is spelled, and only that
pub record IsForm (form : Form) : Type 0 where
  pub some : (r : Reference) → 0 < length (form.spelling r)
  pub found : (t : List ℕ) (r : Reference) → form.at t ≡ Some r → Found form t r
  pub again : (r : Reference) (rest : List ℕ) → StandsBefore form r rest → form.at (form.spelling r ++ rest) ≡ Some r
  pub one : (r : Reference) (rest : List ℕ) → AreDigits r.digits → form.at (form.spelling r ++ rest) ≢ None

-- which side of a choice was taken
chosen : {A : Type 0} (b : Bool) (x y z : A) → cond b x y ≡ z → ((b ≡ true) × (x ≡ z)) ⊎ ((b ≡ false) × (y ≡ z))
chosen true x y z e = inl (refl, e)
chosen false x y z e = inr (refl, e)

-- the digits at the front of a text are the digits of a reference
digits_found : (m : Manner) (t : List ℕ) (r : Reference) → referring m (digits_of t) ≡ Some r →
    (r ≡ reference (digits_of t) m) × AreDigits (digits_of t)
digits_found m t r e =
    let some = referring_some m (digits_of t) r e in
    (some.0, record { all = (cut t).all; some = some.1 })

-- digits alone, behind a character
alone_found : (form : Form) (sign : ℕ) (t : List ℕ) (r : Reference) → ((ds : List ℕ) → form.spelling (reference ds AsCaptured) ≡ sign ∷ ds) → form.has AsCaptured ≡ true →
    referring AsCaptured (digits_of t) ≡ Some r → Found form (sign ∷ t) r
alone_found form sign t r spells has e =
    let is = digits_found AsCaptured t r e in
    let found : Found form (sign ∷ t) (reference (digits_of t) AsCaptured) = record {
      rest = (cut t).rest;
      whole = ap (λ u. sign ∷ u) (cut t).whole ∙ ap (λ u. u ++ (cut t).rest) (sym (spells (digits_of t)));
      stands = record { case = has; digits = is.1; ends = (cut t).ends };
    } in
    subst (Found form (sign ∷ t)) (sym is.0) found

end_found : (t : List ℕ) (r : Reference) → end_reference t ≡ Some r → Found end_form t r
unfolding end_reference
end_found [] r e = absurd cc
end_found (c ∷ t) r e = elim (chosen (c == 92) (referring AsCaptured (digits_of t)) None (Some r) e) [
  | inl is ↦ subst (λ d. Found end_form (d ∷ t) r) (sym (eqb-true c 92 is.0)) (alone_found end_form 92 t r (λ ds. refl) refl is.1)
  | inr other ↦ absurd (let h : None ≡ Some r = other.1 in cc)
]

end_again : (r : Reference) (rest : List ℕ) → StandsBefore end_form r rest → end_reference (end_spelling r ++ rest) ≡ Some r
unfolding end_reference
end_again r rest stands = elim r.manner as (λ m. r.manner ≡ m → end_reference (end_spelling r ++ rest) ≡ Some r) [
  | AsCaptured ↦ λ is. rw (digits_again r.digits rest stands.digits.all (subst (λ m. EndsBefore m rest) is stands.ends)) (referring_digits AsCaptured r.digits stands.digits.some ∙ ap (λ m. Some (reference r.digits m)) (sym is))
  | Downcase ↦ λ is. absurd (let h = stands.case in cc)
  | Upcase ↦ λ is. absurd (let h = stands.case in cc)
] refl

-- digits are no brace
no_brace : (d : ℕ) → is_ascii_digit d ≡ true → (d == 123) ≡ false
no_brace d is = elim (cases_Bool (d == 123)) [
  | inl same ↦ absurd (let h : is_ascii_digit 123 ≡ true = subst (λ x. is_ascii_digit x ≡ true) (eqb-true d 123 same) is in cc)
  | inr other ↦ other
]

-- with digits at the front there is a reference
has_digits : (ds rest : List ℕ) → AreDigits ds → referring AsCaptured (digits_of (ds ++ rest)) ≢ None
has_digits [] rest are e = are.some refl
has_digits (d ∷ ds) rest are e =
    let parts = and_parts (is_ascii_digit d) (list_all is_ascii_digit ds) are.all in
    let front : digits_of ((d ∷ ds) ++ rest) ≡ d ∷ digits_of (ds ++ rest) = rw (take_while-cons is_ascii_digit d (ds ++ rest), parts.0) refl in
    let h : referring AsCaptured (d ∷ digits_of (ds ++ rest)) ≡ None = ap (λ u. referring AsCaptured u) (sym front) ∙ e in
    absurd cc

end_one : (r : Reference) (rest : List ℕ) → AreDigits r.digits → end_reference (end_spelling r ++ rest) ≢ None
unfolding end_reference
end_one r rest are = has_digits r.digits rest are

pub end_is_form : IsForm end_form
end_is_form = record {
  some = λ r. omega arith;
  found = end_found;
  again = end_again;
  one = end_one;
}

-- a text that starts with a word goes on behind it
starts_whole : (u word : List ℕ) → starts_with nat_eq u word ≡ true → u ≡ word ++ drop (length word) u
starts_whole u word e = (starts_is Decides-eqb u word (starts_with nat_eq u word) refl).0 e

-- a case is written at the front of the text
record Closed (u : List ℕ) (m : Manner) : Type 0 where
  rest : List ℕ
  whole : u ≡ manner_text m ++ rest
  braces : (ds : List ℕ) → name_spelling (reference ds m) ≡ in_braces (reference ds m)
  ends : (t : List ℕ) → EndsBefore m t

closed : (u : List ℕ) (m : Manner) → manner_at u ≡ Some m → Closed u m
unfolding manner_at
closed u m e = elim (chosen (starts_with nat_eq u (manner_text Downcase)) (Some Downcase) (cond (starts_with nat_eq u (manner_text Upcase)) (Some Upcase) None) (Some m) e) [
  | inl down ↦
      let is : Downcase ≡ m = let h = down.1 in cc in
      let found : Closed u Downcase = record { rest = drop 11 u; whole = starts_whole u (manner_text Downcase) down.0; braces = λ ds. refl; ends = λ t. tt } in
      subst (Closed u) is found
  | inr other ↦ elim (chosen (starts_with nat_eq u (manner_text Upcase)) (Some Upcase) None (Some m) other.1) [
    | inl up ↦
        let is : Upcase ≡ m = let h = up.1 in cc in
        let found : Closed u Upcase = record { rest = drop 9 u; whole = starts_whole u (manner_text Upcase) up.0; braces = λ ds. refl; ends = λ t. tt } in
        subst (Closed u) is found
    | inr none ↦ absurd (let h : None ≡ Some m = none.1 in cc)
  ]
]

-- the case that there was
cased_some : (ds : List ℕ) (o : Option Manner) (r : Reference) → cased ds o ≡ Some r → (m : Manner) × (o ≡ Some m) × (referring m ds ≡ Some r)
cased_some ds None r e = absurd cc
cased_some ds (Some m) r e = (m, refl, e)

braced_found : (t : List ℕ) (r : Reference) → braced_at t ≡ Some r → Found name_form (36 ∷ 123 ∷ t) r
braced_found t r e =
    let case = cased_some (digits_of t) (manner_at (drop (length (digits_of t)) t)) r e in
    let m = case.0 in
    let is = digits_found m t r case.2 in
    let c = closed (drop (length (digits_of t)) t) m case.1 in
    let found : Found name_form (36 ∷ 123 ∷ t) (reference (digits_of t) m) = record {
      rest = c.rest;
      whole = ap (λ u. 36 ∷ 123 ∷ u) ((cut t).whole ∙ ap (λ u. digits_of t ++ u) (sym (behind t) ∙ c.whole) ∙ sym (append_assoc (digits_of t) (manner_text m) c.rest))
          ∙ ap (λ u. u ++ c.rest) (sym (c.braces (digits_of t)));
      stands = record { case = refl; digits = is.1; ends = c.ends c.rest };
    } in
    subst (Found name_form (36 ∷ 123 ∷ t)) (sym is.0) found

dollar_found : (t : List ℕ) (r : Reference) → dollar_at t ≡ Some r → Found name_form (36 ∷ t) r
unfolding dollar_at
dollar_found [] r e = absurd cc
dollar_found (c ∷ t) r e = elim (chosen (c == 123) (braced_at t) (referring AsCaptured (digits_of (c ∷ t))) (Some r) e) [
  | inl is ↦ subst (λ d. Found name_form (36 ∷ d ∷ t) r) (sym (eqb-true c 123 is.0)) (braced_found t r is.1)
  | inr other ↦ alone_found name_form 36 (c ∷ t) r (λ ds. refl) refl other.1
]

name_found : (t : List ℕ) (r : Reference) → name_reference t ≡ Some r → Found name_form t r
unfolding name_reference
name_found [] r e = absurd cc
name_found (c ∷ t) r e = elim (chosen (c == 36) (dollar_at t) None (Some r) e) [
  | inl is ↦ subst (λ d. Found name_form (d ∷ t) r) (sym (eqb-true c 36 is.0)) (dollar_found t r is.1)
  | inr other ↦ absurd (let h : None ≡ Some r = other.1 in cc)
]

-- digits behind a `$` are no brace
dollar_digits : (ds rest : List ℕ) → AreDigits ds → dollar_at (ds ++ rest) ≡ referring AsCaptured (digits_of (ds ++ rest))
unfolding dollar_at
dollar_digits [] rest are = absurd (are.some refl)
dollar_digits (d ∷ ds) rest are = rw (no_brace d (and_parts (is_ascii_digit d) (list_all is_ascii_digit ds) are.all).0) refl

down_at : (rest : List ℕ) → manner_at (manner_text Downcase ++ rest) ≡ Some Downcase
unfolding manner_at
down_at rest = refl

up_at : (rest : List ℕ) → manner_at (manner_text Upcase ++ rest) ≡ Some Upcase
unfolding manner_at
up_at rest = refl

braced_again : (m : Manner) (ds rest : List ℕ) → AreDigits ds → begins_digit (manner_text m ++ rest) ≡ false → manner_at (manner_text m ++ rest) ≡ Some m →
    name_reference (in_braces (reference ds m) ++ rest) ≡ Some (reference ds m)
unfolding name_reference dollar_at
braced_again m ds rest are ends at =
    let same = append_assoc ds (manner_text m) rest in
    let digits : digits_of (ds ++ (manner_text m ++ rest)) ≡ ds = digits_again ds (manner_text m ++ rest) are.all ends in
    ap braced_at same ∙ rw (digits, drop-append_seam ds (manner_text m ++ rest), at) (referring_digits m ds are.some)

name_again_as : (m : Manner) (ds rest : List ℕ) → StandsBefore name_form (reference ds m) rest → name_reference (name_spelling (reference ds m) ++ rest) ≡ Some (reference ds m)
unfolding name_reference
name_again_as AsCaptured ds rest stands = dollar_digits ds rest stands.digits ∙ rw (digits_again ds rest stands.digits.all stands.ends) (referring_digits AsCaptured ds stands.digits.some)
name_again_as Downcase ds rest stands = braced_again Downcase ds rest stands.digits refl (down_at rest)
name_again_as Upcase ds rest stands = braced_again Upcase ds rest stands.digits refl (up_at rest)

name_one_as : (m : Manner) (ds rest : List ℕ) → AreDigits ds → name_reference (name_spelling (reference ds m) ++ rest) ≢ None
unfolding name_reference
name_one_as AsCaptured ds rest are e = has_digits ds rest are (sym (dollar_digits ds rest are) ∙ e)
name_one_as Downcase ds rest are e = absurd (let h = braced_again Downcase ds rest are refl (down_at rest) in cc)
name_one_as Upcase ds rest are e = absurd (let h = braced_again Upcase ds rest are refl (up_at rest) in cc)

name_some : (m : Manner) (ds : List ℕ) → 0 < length (name_spelling (reference ds m))
name_some AsCaptured ds = omega arith
name_some Downcase ds = omega arith
name_some Upcase ds = omega arith

pub name_is_form : IsForm name_form
name_is_form = record {
  some = λ r. name_some r.manner r.digits;
  found = name_found;
  again = λ r rest. name_again_as r.manner r.digits rest;
  one = λ r rest. name_one_as r.manner r.digits rest;
}
