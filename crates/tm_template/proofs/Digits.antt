-- The digits at the front of a text.
use Rattle.std.proofs.Common.{◌≡◌, ◌≢◌, ℕ, true, false, List, [], ◌∷◌, ◌++◌, length, drop, Some, refl, ap, ◌∙◌, inl, inr}
use Rattle.std.specs.List.{list_all}
use Rattle.std.specs.Char.{is_ascii_digit}
use Rattle.std.proofs.lemmas.Bool.{cases_Bool, and_parts}
use Rattle.std.proofs.lemmas.List.Sums.{take_while-cons}
use Rattle.std.proofs.Math.Seq.{drop-append_seam}
use Rattle.tm_template.specs.declared.references.Manner.{Manner}
use Rattle.tm_template.specs.References.{Reference, reference, digits_of, referring}
use Rattle.tm_template.specs.Ends.{begins_digit}

-- a text as its digits and what follows them
pub record Cut (t : List ℕ) : Type 0 where
  pub rest : List ℕ
  pub whole : t ≡ digits_of t ++ rest
  pub all : list_all is_ascii_digit (digits_of t) ≡ true
  pub ends : begins_digit rest ≡ false

cut_more : (c : ℕ) (t : List ℕ) → is_ascii_digit c ≡ true → Cut t → Cut (c ∷ t)
cut_more c t is f =
    let e : digits_of (c ∷ t) ≡ c ∷ digits_of t = rw (take_while-cons is_ascii_digit c t, is) refl in
    record {
      rest = f.rest;
      whole = rw e (ap (λ u. c ∷ u) f.whole);
      all = rw (e, is) f.all;
      ends = f.ends;
    }

cut_none : (c : ℕ) (t : List ℕ) → is_ascii_digit c ≡ false → Cut (c ∷ t)
cut_none c t is =
    let e : digits_of (c ∷ t) ≡ [] = rw (take_while-cons is_ascii_digit c t, is) refl in
    record { rest = c ∷ t; whole = rw e refl; all = rw e refl; ends = is }

pub cut : (t : List ℕ) → Cut t
cut [] = record { rest = []; whole = refl; all = refl; ends = refl }
cut (c ∷ t) = elim (cases_Bool (is_ascii_digit c)) [
  | inl is ↦ cut_more c t is (cut t)
  | inr is ↦ cut_none c t is
]

-- what follows the digits
pub behind : (t : List ℕ) → drop (length (digits_of t)) t ≡ (cut t).rest
behind t = ap (λ u. drop (length (digits_of t)) u) (cut t).whole ∙ drop-append_seam (digits_of t) (cut t).rest

-- digits that are written are read
pub digits_again : (ds rest : List ℕ) → list_all is_ascii_digit ds ≡ true → begins_digit rest ≡ false → digits_of (ds ++ rest) ≡ ds
digits_again [] [] all ends = refl
digits_again [] (c ∷ rest) all ends = rw (take_while-cons is_ascii_digit c rest, ends) refl
digits_again (d ∷ ds) rest all ends =
    let parts = and_parts (is_ascii_digit d) (list_all is_ascii_digit ds) all in
    rw (take_while-cons is_ascii_digit d (ds ++ rest), parts.0) (ap (λ u. d ∷ u) (digits_again ds rest parts.1 ends))

-- the reference that there is has these digits, and they are some
pub referring_some : (m : Manner) (ds : List ℕ) (r : Reference) → referring m ds ≡ Some r → (r ≡ reference ds m) × (ds ≢ [])
referring_some m [] r e = absurd cc
referring_some m (d ∷ ds) r e = (cc, λ h. absurd cc)

-- with digits there is a reference
pub referring_digits : (m : Manner) (ds : List ℕ) → ds ≢ [] → referring m ds ≡ Some (reference ds m)
referring_digits m [] some = absurd (some refl)
referring_digits m (d ∷ ds) some = refl
