-- References are read exactly as they are spelled.
use Rattle.std.proofs.Common.{◌≡◌, ℕ, ◌<◌, ◌≤◌, Bool, true, false, not, ◌&&◌, ◌||◌, List, [], ◌∷◌, ◌++◌, length, Option, Some, refl, sym, ap, ◌∙◌, inl, inr, arith, append_assoc}
use Rattle.std.specs.Prelude.{◌==◌}
use Rattle.std.specs.List.{list_all}
use Rattle.std.specs.Char.{is_ascii_digit}
use Rattle.std.specs.Str.Parse.{digits_value}
use Rattle.std.proofs.lemmas.Bool.{eqb-true, and_parts}
use Rattle.std.proofs.lemmas.Bool.Decides.{nat_tests}
use Rattle.tm_onig_atom.specs.declared.options.Options.{Options}
use Rattle.tm_onig_atom.specs.Escapes.{begins}
use Rattle.tm_onig_atom.specs.inner.Reading.{rest_of}
use Rattle.tm_onig_parse.specs.Names.{Names, starts_name, begins_digit, Reference, Digits, Numbered, Called, reference_text, IsReference, Number, Name, key_of}
use Rattle.tm_onig_parse.specs.Things.{begins_reference}
use Rattle.tm_onig_parse.specs.inner.Reading.{Sym, limited, name_to, refers, numbered, digits_ref, number_ref, name_ref, keyed_at, reference_at, escape_at}
use Rattle.tm_onig_atom.proofs.Texts.{chosen, bind_ok}
use Rattle.tm_onig_parse.proofs.BoundsValues.{below, limited_found}
use Rattle.tm_onig_parse.proofs.NamesExact.{name_to_again, name_to_found, number_again, Digits as Front, digits_of, number_found, some_digits}

-- a digit is no `k`
digit_no_k : (d : ℕ) → is_ascii_digit d ≡ true → (d == 107) ≡ false
digit_no_k d e = grind (arith, nat_tests)

-- digits begin with one
first_digit : (n rest : List ℕ) → 0 < length n → list_all is_ascii_digit n ≡ true → begins_digit (n ++ rest) ≡ true
first_digit [] rest some all = absurd (omega arith)
first_digit (d ∷ n) rest some all = (and_parts (is_ascii_digit d) (list_all is_ascii_digit n) all).0

-- a name does not
first_letter : (name rest : List ℕ) → starts_name name ≡ true → begins_digit (name ++ rest) ≡ false
first_letter [] rest e = absurd cc
first_letter (c ∷ name) rest e = no (is_ascii_digit c) e
  where
    no : (b : Bool) → not b ≡ true → b ≡ false
    no true e = absurd cc
    no false e = refl

-- a number within the limit
number_again_in : (names : Option Names) (o : Options) (n rest : List ℕ) → digits_value 10 n ≤ 100000 → numbered names o (limited (digits_value 10 n)) rest ≡ refers names o (Number (digits_value 10 n)) rest
number_again_in names o n rest low = rw (below (digits_value 10 n) low) refl

-- digits behind a backslash
digits_again : (names : Option Names) (o : Options) (n rest : List ℕ) → IsReference (Digits n) rest → digits_ref names o (n ++ rest) ≡ refers names o (Number (digits_value 10 n)) rest
digits_again names o n rest is = rw (number_again n rest is.0 is.3) (number_again_in names o n rest is.4)

-- the first of them is no `k`
digits_at_once : (names : Option Names) (o : Options) (n rest : List ℕ) → IsReference (Digits n) rest → reference_at names o (n ++ rest) ≡ refers names o (Number (digits_value 10 n)) rest
digits_at_once names o [] rest is = absurd (omega (arith, is.1))
digits_at_once names o (d ∷ n) rest is =
    let first = (and_parts (is_ascii_digit d) (list_all is_ascii_digit n) is.0).0 in
    rw (digit_no_k d first) (digits_again names o (d ∷ n) rest is)

-- A reference that is written is read.
pub reference_again : (names : Option Names) (r : Reference) (o : Options) (rest : List ℕ) → IsReference r rest → reference_at names o (reference_text r ++ rest) ≡ refers names o (key_of r) rest
unfolding keyed_at
reference_again names (Digits n) o rest is = digits_at_once names o n rest is
reference_again names (Numbered n) o rest is =
    ap (λ u. keyed_at names o (60 ∷ u)) (append_assoc n (62 ∷ []) rest)
    ∙ (rw (first_digit n (62 ∷ rest) is.1 is.0, number_again n (62 ∷ rest) is.0 refl) (number_again_in names o n rest is.2))
reference_again names (Called true name) o rest is =
    ap (λ u. keyed_at names o (39 ∷ u)) (append_assoc name (39 ∷ []) rest) ∙ (rw (name_to_again 39 name rest is refl) refl)
reference_again names (Called false name) o rest is =
    ap (λ u. keyed_at names o (60 ∷ u)) (append_assoc name (62 ∷ []) rest)
    ∙ (rw (first_letter name (62 ∷ rest) is.1, name_to_again 62 name rest is refl) refl)

-- its first character begins a reference
digits_begin : (d : ℕ) → is_ascii_digit d ≡ true → (d == 48) ≡ false → begins_reference d ≡ true
digits_begin d e f = rw (e, f) refl

-- So it is read behind a backslash.
pub escape_again : (names : Option Names) (r : Reference) (o : Options) (rest : List ℕ) → IsReference r rest → escape_at names o (reference_text r ++ rest) ≡ refers names o (key_of r) rest
unfolding escape_at
escape_again names (Digits []) o rest is = absurd (omega (arith, is.1))
escape_again names (Digits (d ∷ n)) o rest is =
    let first = (and_parts (is_ascii_digit d) (list_all is_ascii_digit n) is.0).0 in
    rw (digits_begin d first is.2) (reference_again names (Digits (d ∷ n)) o rest is)
escape_again names (Numbered n) o rest is = reference_again names (Numbered n) o rest is
escape_again names (Called true name) o rest is = reference_again names (Called true name) o rest is
escape_again names (Called false name) o rest is = reference_again names (Called false name) o rest is

-- The reference that was read.
pub record Referred (names : Option Names) (o : Options) (t : List ℕ) (y : Sym) (rest : List ℕ) : Type 0 where
  pub reference : Reference
  pub after : List ℕ
  pub whole : t ≡ reference_text reference ++ after
  pub is : IsReference reference after
  pub means : refers names o (key_of reference) after ≡ Some (y, rest)

-- a number that was read
digits_found : (names : Option Names) (o : Options) (c : ℕ) (t : List ℕ) (y : Sym) (rest : List ℕ) → is_ascii_digit c ≡ true → (c == 48) ≡ false →
    digits_ref names o (c ∷ t) ≡ Some (y, rest) → Referred names o (c ∷ t) y rest
digits_found names o c t y rest is other e =
    let d = digits_of (c ∷ t) in
    let some = some_digits c t is d in
    let read = rw (number_found (c ∷ t) d) at e in
    let f = limited_found (digits_value 10 d.digits) (λ n. numbered names o n d.rest) (y, rest) refl read in
    record {
      reference = Digits d.digits;
      after = d.rest;
      whole = d.whole;
      is = (d.all, rw some.1 (omega arith), rw some.1 other, d.ends, f.0);
      means = f.1;
    }

-- the front of a text
begins_rest : (d : ℕ) (t : List ℕ) → begins d t ≡ true → t ≡ d ∷ rest_of t
begins_rest d [] e = absurd cc
begins_rest d (c ∷ t) e = ap (λ x. x ∷ t) (eqb-true c d e)

-- digits that are some
some_length : (c : ℕ) (t : List ℕ) → is_ascii_digit c ≡ true → (d : Front (c ∷ t)) → 0 < length d.digits
some_length c t is d = let some = some_digits c t is d in rw some.1 (omega arith)

-- the same of a text
front_length : (t : List ℕ) → begins_digit t ≡ true → (d : Front t) → 0 < length d.digits
front_length [] is d = absurd cc
front_length (c ∷ t) is d = some_length c t is d

-- a number that was read, and ends
number_ends : (names : Option Names) (o : Options) (t : List ℕ) (y : Sym) (rest : List ℕ) → begins_digit t ≡ true → (d : Front t) →
    begins 62 d.rest ≡ true → numbered names o (limited (digits_value 10 d.digits)) (rest_of d.rest) ≡ Some (y, rest) → Referred names o (107 ∷ 60 ∷ t) y rest
number_ends names o t y rest is d ends e =
    let f = limited_found (digits_value 10 d.digits) (λ n. numbered names o n (rest_of d.rest)) (y, rest) refl e in
    record {
      reference = Numbered d.digits;
      after = rest_of d.rest;
      whole = ap (λ u. 107 ∷ 60 ∷ u) (d.whole ∙ ap (λ u. d.digits ++ u) (begins_rest 62 d.rest ends) ∙ sym (append_assoc d.digits (62 ∷ []) (rest_of d.rest)));
      is = (d.all, front_length t is d, f.0);
      means = f.1;
    }

-- a number behind a `k<` that was read
number_ref_found : (names : Option Names) (o : Options) (t : List ℕ) (y : Sym) (rest : List ℕ) → begins_digit t ≡ true →
    number_ref names o t ≡ Some (y, rest) → Referred names o (107 ∷ 60 ∷ t) y rest
number_ref_found names o t y rest is e =
    let d = digits_of t in
    let read = rw (number_found t d) at e in
    elim (chosen (begins 62 d.rest) _ _ _ read) [
      | inl c ↦ number_ends names o t y rest is d c.0 c.1
      | inr c ↦ absurd cc
    ]

-- the sign in front of a name
abbrev quote_of : Bool → ℕ
quote_of true = 39
quote_of false = 60

-- the sign behind it
abbrev end_of : Bool → ℕ
end_of true = 39
end_of false = 62

-- how a name is spelled
called_text : (quoted : Bool) (name more : List ℕ) → 107 ∷ quote_of quoted ∷ (name ++ end_of quoted ∷ more) ≡ reference_text (Called quoted name) ++ more
called_text true name more = ap (λ u. 107 ∷ 39 ∷ u) (sym (append_assoc name (39 ∷ []) more))
called_text false name more = ap (λ u. 107 ∷ 60 ∷ u) (sym (append_assoc name (62 ∷ []) more))

-- a name that was read
name_ref_found : (names : Option Names) (quoted : Bool) (o : Options) (t : List ℕ) (y : Sym) (rest : List ℕ) →
    name_ref names (end_of quoted) o t ≡ Some (y, rest) → Referred names o (107 ∷ quote_of quoted ∷ t) y rest
name_ref_found names quoted o t y rest e =
    let b = bind_ok (name_to (end_of quoted) t) (λ p. refers names o (Name p.0) p.1) (y, rest) e in
    let found = name_to_found (end_of quoted) t b.0.0 b.0.1 b.1 in
    record {
      reference = Called quoted b.0.0;
      after = b.0.1;
      whole = ap (λ u. 107 ∷ quote_of quoted ∷ u) found.0 ∙ called_text quoted b.0.0 b.0.1;
      is = found.1;
      means = b.2;
    }

-- what stands behind a `k`
keyed_found : (names : Option Names) (o : Options) (t : List ℕ) (y : Sym) (rest : List ℕ) → keyed_at names o t ≡ Some (y, rest) → Referred names o (107 ∷ t) y rest
unfolding keyed_at
keyed_found names o [] y rest e = absurd cc
keyed_found names o (c ∷ t) y rest e = elim (chosen (c == 60) _ _ _ e) [
  | inl h ↦ elim (chosen (begins_digit t) _ _ _ h.1) [
    | inl g ↦ rw (eqb-true c 60 h.0) (number_ref_found names o t y rest g.0 g.1)
    | inr g ↦ rw (eqb-true c 60 h.0) (name_ref_found names false o t y rest g.1)
  ]
  | inr h ↦ elim (chosen (c == 39) _ _ _ h.1) [
    | inl g ↦ rw (eqb-true c 39 g.0) (name_ref_found names true o t y rest g.1)
    | inr g ↦ absurd cc
  ]
]

-- what begins a reference and is no `k` is a digit other than 0
digit_of : (c : ℕ) → begins_reference c ≡ true → (c == 107) ≡ false → (is_ascii_digit c ≡ true) × ((c == 48) ≡ false)
digit_of c e other = parts (is_ascii_digit c) (c == 48) (c == 107) e other
  where
    parts : (a b k : Bool) → ((a && not b) || k) ≡ true → k ≡ false → (a ≡ true) × (b ≡ false)
    parts true false k e f = (refl, refl)
    parts true true k e f = absurd cc
    parts false b k e f = absurd cc

-- A reference that is read is written.
pub reference_found : (names : Option Names) (o : Options) (c : ℕ) (t : List ℕ) (y : Sym) (rest : List ℕ) → begins_reference c ≡ true →
    reference_at names o (c ∷ t) ≡ Some (y, rest) → Referred names o (c ∷ t) y rest
reference_found names o c t y rest is e = elim (chosen (c == 107) _ _ _ e) [
  | inl h ↦ rw (eqb-true c 107 h.0) (keyed_found names o t y rest h.1)
  | inr h ↦ let d = digit_of c is h.0 in digits_found names o c t y rest d.0 d.1 h.1
]
