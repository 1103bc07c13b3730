-- An escape is read exactly as it is spelled.
use Rattle.std.proofs.Common.{◌≡◌, ℕ, ◌≤◌, Bool, true, false, not, cond, List, [], ◌∷◌, ◌++◌, Option, Some, None, option_map, refl, sym, ap, ◌∙◌, subst, inl, inr, arith, append_assoc}
use Rattle.std.specs.Prelude.{◌==◌}
use Rattle.std.specs.List.{list_any}
use Rattle.std.proofs.lemmas.Bool.{cases_Bool, eqb-true}
use Rattle.std.proofs.lemmas.Bool.Decides.{nat_tests}
use Rattle.tm_onig_class.specs.declared.names.Known.{Known}
use Rattle.tm_onig_class.specs.Named.{known}
use Rattle.tm_onig_class.specs.Tree.{Tree, IsOne}
use Rattle.tm_onig_atom.specs.declared.options.Options.{Options}
use Rattle.tm_onig_atom.specs.declared.meanings.Named.{Named}
use Rattle.tm_onig_atom.specs.declared.meanings.Meant.{Meant}
use Rattle.tm_onig_atom.specs.declared.meanings.Meant.TheVariants.{Character, Members}
use Rattle.tm_onig_atom.specs.Escapes.{begins, set_letter, is_no_char, escaped_char, Escape, Sign, Short, Hex, Braced, Unicode, Octal, Property, escape_head, escape_text, IsEscape, meant, meant_tree, escape_tree}
use Rattle.tm_onig_atom.specs.inner.Reading.{◌>>=◌, by_number, digits_at, hex_at, before, named_as, name_at, caret_at, property_at, as_char, sign_or, sign_meant, meant_at, escape_at}
use Rattle.tm_onig_atom.proofs.Texts.{chosen, bind_ok, map_ok, differs, before_again, before_found}
use Rattle.tm_onig_atom.proofs.Digits.{number_again, number_found, hex_again, braced_again, braced_found}

-- what is read behind a backslash
abbrev pub Answer : Type 0
Answer = Option (Meant × List ℕ)

-- The character begins no longer form.
record Plain (c : ℕ) : Type 0 where
  is_120 : (c == 120) ≡ false
  is_117 : (c == 117) ≡ false
  is_48 : (c == 48) ≡ false
  is_112 : (c == 112) ≡ false
  is_80 : (c == 80) ≡ false

-- an escaped character is plain
sign_plain : (c value : ℕ) → escaped_char c ≡ Some value → Plain c
unfolding escaped_char is_no_char
sign_plain c value e = record {
  is_120 = differs escaped_char 120 refl c value e;
  is_117 = differs escaped_char 117 refl c value e;
  is_48 = differs escaped_char 48 refl c value e;
  is_112 = differs escaped_char 112 refl c value e;
  is_80 = differs escaped_char 80 refl c value e;
}

-- the letter of a set is plain
short_plain : (c : ℕ) (named : Named) → set_letter c ≡ Some named → Plain c
unfolding set_letter
short_plain c named e = record {
  is_120 = differs set_letter 120 refl c named e;
  is_117 = differs set_letter 117 refl c named e;
  is_48 = differs set_letter 48 refl c named e;
  is_112 = differs set_letter 112 refl c named e;
  is_80 = differs set_letter 80 refl c named e;
}

-- an escaped character is no set
no_letter : (c value : ℕ) → escaped_char c ≡ Some value → set_letter c ≡ None
unfolding escaped_char set_letter is_no_char
no_letter c value e =
    let w = differs escaped_char 119 refl c value e in
    let d = differs escaped_char 100 refl c value e in
    let s = differs escaped_char 115 refl c value e in
    let h = differs escaped_char 104 refl c value e in
    let w2 = differs escaped_char 87 refl c value e in
    let d2 = differs escaped_char 68 refl c value e in
    let s2 = differs escaped_char 83 refl c value e in
    let h2 = differs escaped_char 72 refl c value e in
    rw (w, d, s, h, w2, d2, s2, h2) refl

-- a plain character goes to the last case
plain_read : (c : ℕ) (t : List ℕ) → Plain c → meant_at (c ∷ t) ≡ option_map (λ m. (m, t)) (sign_meant c)
unfolding meant_at
plain_read c t p = rw (p.is_120, p.is_117, p.is_48, p.is_112, p.is_80) refl

-- a name without `^` in front
no_caret : (negated : Bool) (name rest : List ℕ) → begins 94 name ≡ false → caret_at negated (name ++ 125 ∷ rest) ≡ name_at negated (name ++ 125 ∷ rest)
no_caret negated [] rest e = refl
no_caret negated (c ∷ name) rest e = rw e refl

-- a name with its brace
name_again : (negated : Bool) (name rest : List ℕ) (set : Known) → list_any (λ c. c == 125) name ≡ false → known name ≡ Some set →
    ◌≡◌ {A = Answer} (name_at negated (name ++ 125 ∷ rest)) (Some (Members (record { known = set; negated = negated }), rest))
name_again negated name rest set none is = ap (λ (o : Option (List ℕ × List ℕ)). o >>= named_as negated) (before_again 125 name rest none) ∙ (rw is refl)

-- a set by its name
property_again : (negated caret : Bool) (name rest : List ℕ) (set : Known) → list_any (λ c. c == 125) name ≡ false → (caret ≡ false → begins 94 name ≡ false) → known name ≡ Some set →
    ◌≡◌ {A = Answer} (property_at negated (123 ∷ (cond caret (94 ∷ (name ++ 125 ∷ rest)) (name ++ 125 ∷ rest)))) (Some (Members (record { known = set; negated = cond caret (not negated) negated }), rest))
unfolding property_at
property_again negated true name rest set none bare is = name_again (not negated) name rest set none is
property_again negated false name rest set none bare is = no_caret negated name rest (bare refl) ∙ name_again negated name rest set none is

-- Behind a backslash, what is written is read.
pub meant_again : (e : Escape) (rest : List ℕ) → IsEscape e rest → meant_at (escape_text e ++ rest) ≡ Some (meant e, rest)
unfolding meant_at
meant_again (Sign c value) rest is = plain_read c rest (sign_plain c value is) ∙ (rw (no_letter c value is, is) refl)
meant_again (Short c named) rest is = plain_read c rest (short_plain c named is) ∙ (rw is refl)
meant_again (Hex ds) rest is = ap as_char (hex_again ds rest is.0 is.1 is.2)
meant_again (Braced ds) rest is = ap (λ u. as_char (hex_at (123 ∷ u))) (append_assoc ds (125 ∷ []) rest) ∙ ap as_char (braced_again ds rest is.0 is.1)
meant_again (Unicode ds) rest is = ap as_char (number_again 16 4 4 ds rest is.0 (λ h. absurd (omega (arith, h, is.0.1))) is.1)
meant_again (Octal ds) rest is = ap as_char (number_again 8 0 2 ds rest is.0 is.1 is.2)
meant_again (Property true true name set) rest is = ap (λ u. property_at true (123 ∷ 94 ∷ u)) (append_assoc name (125 ∷ []) rest) ∙ property_again true true name rest set is.0 is.1 is.2
meant_again (Property true false name set) rest is = ap (λ u. property_at true (123 ∷ u)) (append_assoc name (125 ∷ []) rest) ∙ property_again true false name rest set is.0 is.1 is.2
meant_again (Property false true name set) rest is = ap (λ u. property_at false (123 ∷ 94 ∷ u)) (append_assoc name (125 ∷ []) rest) ∙ property_again false true name rest set is.0 is.1 is.2
meant_again (Property false false name set) rest is = ap (λ u. property_at false (123 ∷ u)) (append_assoc name (125 ∷ []) rest) ∙ property_again false false name rest set is.0 is.1 is.2

-- What was read is spelled so.
pub record ReadsEscape (t : List ℕ) (m : Meant) (rest : List ℕ) : Type 0 where
  pub escape : Escape
  pub whole : t ≡ escape_text escape ++ rest
  pub is : IsEscape escape rest
  pub means : m ≡ meant escape

-- what was read, where both pairs are one
reads_by : (e : Escape) (r : List ℕ) (m : Meant) (rest : List ℕ) → IsEscape e r → ◌≡◌ {A = Answer} (Some (meant e, r)) (Some (m, rest)) → ReadsEscape (escape_text e ++ r) m rest
reads_by e r m rest is same =
    let p : ◌≡◌ {A = Meant × List ℕ} (meant e, r) (m, rest) = cc in
    subst (λ (p : Meant × List ℕ). ReadsEscape (escape_text e ++ r) p.0 p.1) p (record { escape = e; whole = refl; is = is; means = refl })

-- a text that is the same
reads_same : (t u : List ℕ) (m : Meant) (rest : List ℕ) → t ≡ u → ReadsEscape u m rest → ReadsEscape t m rest
reads_same t u m rest e r = subst (λ v. ReadsEscape v m rest) (sym e) r

-- a character that was read
char_ok : (o : Option (ℕ × List ℕ)) (m : Meant) (rest : List ℕ) → as_char o ≡ Some (m, rest) → (value : ℕ) × (o ≡ Some (value, rest)) × (m ≡ Character value)
char_ok None m rest e = absurd cc
char_ok (Some x) m rest e =
    let p : ◌≡◌ {A = Meant × List ℕ} (Character x.0, x.1) (m, rest) = cc in
    (x.0, ap (λ (p : Meant × List ℕ). Some (x.0, p.1)) p, sym (ap (λ (p : Meant × List ℕ). p.0) p))

-- the same with another value and meaning
reads_char : (e : Escape) (r : List ℕ) (m : Meant) (value : ℕ) → IsEscape e r → meant e ≡ Character value → m ≡ Character value → ReadsEscape (escape_text e ++ r) m r
reads_char e r m value is a b = record { escape = e; whole = refl; is = is; means = b ∙ sym a }

-- digits between braces that are read
closed_escape : (t : List ℕ) (m : Meant) (rest : List ℕ) → as_char (hex_at (123 ∷ t)) ≡ Some (m, rest) → ReadsEscape (120 ∷ 123 ∷ t) m rest
unfolding hex_at
closed_escape t m rest e =
    let c = char_ok (hex_at (123 ∷ t)) m rest e in
    let f = braced_found t c.0 rest c.1 in
    reads_same _ _ m rest (ap (λ u. 120 ∷ 123 ∷ u) (f.whole ∙ sym (append_assoc f.digits (125 ∷ []) rest)))
    (reads_char (Braced f.digits) rest m c.0 (f.are, f.is) (ap (λ n. Character n) f.means) c.2)

-- one or two digits that are read
short_escape : (t : List ℕ) (m : Meant) (rest : List ℕ) → as_char (by_number 1 (digits_at 16 2 0 0 t)) ≡ Some (m, rest) → ReadsEscape (120 ∷ t) m rest
short_escape t m rest e =
    let c = char_ok _ m rest e in
    let f = number_found 16 1 2 t c.0 rest c.1 in
    reads_same _ _ m rest (ap (λ u. 120 ∷ u) f.whole) (reads_char (Hex f.digits) rest m c.0 (f.are, f.ends, f.is) (ap (λ n. Character n) f.means) c.2)

-- a number behind `x` that is read
hex_escape : (t : List ℕ) (m : Meant) (rest : List ℕ) → as_char (hex_at t) ≡ Some (m, rest) → ReadsEscape (120 ∷ t) m rest
unfolding hex_at
hex_escape [] m rest e = short_escape [] m rest e
hex_escape (c ∷ t) m rest e = elim (cases_Bool (c == 123)) [
  | inl h ↦ let at = eqb-true c 123 h in rw at (closed_escape t m rest (rw at at e))
  | inr h ↦ short_escape (c ∷ t) m rest (rw h at e)
]

-- a number behind `u` that is read
unicode_escape : (t : List ℕ) (m : Meant) (rest : List ℕ) → as_char (by_number 4 (digits_at 16 4 0 0 t)) ≡ Some (m, rest) → ReadsEscape (117 ∷ t) m rest
unicode_escape t m rest e =
    let c = char_ok _ m rest e in
    let f = number_found 16 4 4 t c.0 rest c.1 in
    reads_same _ _ m rest (ap (λ u. 117 ∷ u) f.whole) (reads_char (Unicode f.digits) rest m c.0 (f.are, f.is) (ap (λ n. Character n) f.means) c.2)

-- a number behind `0` that is read
octal_escape : (t : List ℕ) (m : Meant) (rest : List ℕ) → as_char (by_number 0 (digits_at 8 2 0 0 t)) ≡ Some (m, rest) → ReadsEscape (48 ∷ t) m rest
octal_escape t m rest e =
    let c = char_ok _ m rest e in
    let f = number_found 8 0 2 t c.0 rest c.1 in
    reads_same _ _ m rest (ap (λ u. 48 ∷ u) f.whole) (reads_char (Octal f.digits) rest m c.0 (f.are, f.ends, f.is) (ap (λ n. Character n) f.means) c.2)

-- The name that was read.
record ReadsName (negated : Bool) (t : List ℕ) (m : Meant) (rest : List ℕ) : Type 0 where
  name : List ℕ
  set : Known
  whole : t ≡ name ++ 125 ∷ rest
  none : list_any (λ c. c == 125) name ≡ false
  is : known name ≡ Some set
  means : m ≡ Members (record { known = set; negated = negated })

-- a name that is read
name_found : (negated : Bool) (t : List ℕ) (m : Meant) (rest : List ℕ) → name_at negated t ≡ Some (m, rest) → ReadsName negated t m rest
name_found negated t m rest e =
    let b = bind_ok (before 125 t) (named_as negated) (m, rest) e in
    let k = bind_ok (known b.0.0) (λ set. Some (Members (record { known = set; negated = negated }), b.0.1)) (m, rest) b.2 in
    let f = before_found 125 t b.0.0 b.0.1 b.1 in
    let p : ◌≡◌ {A = Meant × List ℕ} (Members (record { known = k.0; negated = negated }), b.0.1) (m, rest) = cc in
    record {
      name = b.0.0;
      set = k.0;
      whole = f.whole ∙ ap (λ (p : Meant × List ℕ). b.0.0 ++ 125 ∷ p.1) p;
      none = f.none;
      is = k.1;
      means = sym (ap (λ (p : Meant × List ℕ). p.0) p);
    }

-- the letter for a set by name
abbrev name_letter : Bool → ℕ
name_letter true = 80
name_letter false = 112

-- a name behind `^`
caret_escape : (capital : Bool) (t : List ℕ) (m : Meant) (rest : List ℕ) → name_at (not capital) t ≡ Some (m, rest) → ReadsEscape (name_letter capital ∷ 123 ∷ 94 ∷ t) m rest
caret_escape capital t m rest e = by_letter capital (name_found (not capital) t m rest e)
  where
    by_letter : (capital : Bool) → ReadsName (not capital) t m rest → ReadsEscape (name_letter capital ∷ 123 ∷ 94 ∷ t) m rest
    by_letter true f = record { escape = Property true true f.name f.set; whole = ap (λ u. 80 ∷ 123 ∷ 94 ∷ u) (f.whole ∙ sym (append_assoc f.name (125 ∷ []) rest)); is = (f.none, (λ h. absurd cc), f.is); means = f.means }
    by_letter false f = record { escape = Property false true f.name f.set; whole = ap (λ u. 112 ∷ 123 ∷ 94 ∷ u) (f.whole ∙ sym (append_assoc f.name (125 ∷ []) rest)); is = (f.none, (λ h. absurd cc), f.is); means = f.means }

-- the front of a name
front_of : (t name rest : List ℕ) → begins 94 t ≡ false → t ≡ name ++ 125 ∷ rest → begins 94 name ≡ false
front_of t [] rest bare e = refl
front_of t (c ∷ name) rest bare e = sym (ap (begins 94) e) ∙ bare

-- a name without `^`
bare_escape : (capital : Bool) (t : List ℕ) (m : Meant) (rest : List ℕ) → begins 94 t ≡ false → name_at capital t ≡ Some (m, rest) → ReadsEscape (name_letter capital ∷ 123 ∷ t) m rest
bare_escape capital t m rest bare e = by_letter capital (name_found capital t m rest e)
  where
    by_letter : (capital : Bool) → ReadsName capital t m rest → ReadsEscape (name_letter capital ∷ 123 ∷ t) m rest
    by_letter true f = record { escape = Property true false f.name f.set; whole = ap (λ u. 80 ∷ 123 ∷ u) (f.whole ∙ sym (append_assoc f.name (125 ∷ []) rest)); is = (f.none, (λ h. front_of t f.name rest bare f.whole), f.is); means = f.means }
    by_letter false f = record { escape = Property false false f.name f.set; whole = ap (λ u. 112 ∷ 123 ∷ u) (f.whole ∙ sym (append_assoc f.name (125 ∷ []) rest)); is = (f.none, (λ h. front_of t f.name rest bare f.whole), f.is); means = f.means }

-- a name behind its brace
brace_escape : (capital : Bool) (t : List ℕ) (m : Meant) (rest : List ℕ) → caret_at capital t ≡ Some (m, rest) → ReadsEscape (name_letter capital ∷ 123 ∷ t) m rest
brace_escape capital [] m rest e = bare_escape capital [] m rest refl e
brace_escape capital (c ∷ t) m rest e = elim (cases_Bool (c == 94)) [
  | inl h ↦ let at = eqb-true c 94 h in rw at (caret_escape capital t m rest (rw h at e))
  | inr h ↦ bare_escape capital (c ∷ t) m rest h (rw h at e)
]

-- a set by its name that is read
property_escape : (capital : Bool) (t : List ℕ) (m : Meant) (rest : List ℕ) → property_at capital t ≡ Some (m, rest) → ReadsEscape (name_letter capital ∷ t) m rest
unfolding property_at
property_escape capital [] m rest e = absurd cc
property_escape capital (c ∷ t) m rest e = elim (cases_Bool (c == 123)) [
  | inl h ↦ let at = eqb-true c 123 h in rw at (brace_escape capital t m rest (rw h at e))
  | inr h ↦ let none : ◌≡◌ {A = Answer} None (Some (m, rest)) = (rw h at e) in absurd cc
]

-- a sign or letter that is read
sign_escape : (c : ℕ) (t : List ℕ) (m : Meant) (rest : List ℕ) (named : Option Named) (value : Option ℕ) → set_letter c ≡ named → escaped_char c ≡ value →
    option_map {U = Meant × List ℕ} (λ m. (m, t)) (sign_or named value) ≡ Some (m, rest) → ReadsEscape (c ∷ t) m rest
sign_escape c t m rest (Some named) value a b e = reads_by (Short c named) t m rest a e
sign_escape c t m rest None (Some value) a b e = reads_by (Sign c value) t m rest b e
sign_escape c t m rest None None a b e = absurd cc

-- Behind a backslash, what is read is written.
pub meant_found : (t : List ℕ) (m : Meant) (rest : List ℕ) → meant_at t ≡ Some (m, rest) → ReadsEscape t m rest
unfolding meant_at
meant_found [] m rest e = absurd cc
meant_found (c ∷ t) m rest e = elim (chosen (c == 120) _ _ _ e) [
  | inl h ↦ rw (eqb-true c 120 h.0) (hex_escape t m rest h.1)
  | inr h ↦ elim (chosen (c == 117) _ _ _ h.1) [
    | inl g ↦ rw (eqb-true c 117 g.0) (unicode_escape t m rest g.1)
    | inr g ↦ elim (chosen (c == 48) _ _ _ g.1) [
      | inl f ↦ rw (eqb-true c 48 f.0) (octal_escape t m rest f.1)
      | inr f ↦ elim (chosen (c == 112) _ _ _ f.1) [
        | inl d ↦ rw (eqb-true c 112 d.0) (property_escape false t m rest d.1)
        | inr d ↦ elim (chosen (c == 80) _ _ _ d.1) [
          | inl b ↦ rw (eqb-true c 80 b.0) (property_escape true t m rest b.1)
          | inr b ↦ sign_escape c t m rest (set_letter c) (escaped_char c) refl refl b.1
        ]
      ]
    ]
  ]
]

-- An escape that is written is read.
pub escape_again : (e : Escape) (o : Options) (rest : List ℕ) → IsEscape e rest → escape_at o (escape_text e ++ rest) ≡ Some (escape_tree o e, rest)
escape_again e o rest is = ap (λ (x : Answer). option_map (λ x. (meant_tree o x.0, x.1)) x) (meant_again e rest is)

-- The escape that was read.
pub record FoundEscape (o : Options) (t : List ℕ) (tree : Tree) (rest : List ℕ) : Type 0 where
  pub escape : Escape
  pub whole : t ≡ escape_text escape ++ rest
  pub is : IsEscape escape rest
  pub means : tree ≡ escape_tree o escape

-- An escape that is read is written.
pub escape_found : (o : Options) (t : List ℕ) (tree : Tree) (rest : List ℕ) → escape_at o t ≡ Some (tree, rest) → FoundEscape o t tree rest
escape_found o t tree rest e =
    let m = map_ok (λ (x : Meant × List ℕ). (meant_tree o x.0, x.1)) (meant_at t) (tree, rest) e in
    let r = meant_found t m.0.0 m.0.1 m.1 in
    let after = ap (λ (p : Tree × List ℕ). p.1) m.2 in
    record {
      escape = r.escape;
      whole = r.whole ∙ ap (λ u. escape_text r.escape ++ u) after;
      is = subst (IsEscape r.escape) after r.is;
      means = sym (ap (λ (p : Tree × List ℕ). p.0) m.2) ∙ ap (meant_tree o) r.means;
    }

-- An escape takes one character.
pub escape_one : (o : Options) (e : Escape) → IsOne (escape_tree o e)
escape_one o e = by_meaning (meant e)
  where
    by_meaning : (m : Meant) → IsOne (meant_tree o m)
    by_meaning (Character c) = tt
    by_meaning (Members named) = tt

-- what an escaped character is not
sign_no_digit : (c value : ℕ) → escaped_char c ≡ Some value → 49 ≤ c → c ≤ 57 → ⊥
unfolding escaped_char is_no_char
sign_no_digit c value e low high =
    let a = differs escaped_char 49 refl c value e in
    let b = differs escaped_char 50 refl c value e in
    let d = differs escaped_char 51 refl c value e in
    let f = differs escaped_char 52 refl c value e in
    let g = differs escaped_char 53 refl c value e in
    let h = differs escaped_char 54 refl c value e in
    let i = differs escaped_char 55 refl c value e in
    let j = differs escaped_char 56 refl c value e in
    let k = differs escaped_char 57 refl c value e in
    grind (arith, nat_tests)

-- nor is the letter of a set
short_no_digit : (c : ℕ) (named : Named) → set_letter c ≡ Some named → 49 ≤ c → c ≤ 57 → ⊥
unfolding set_letter
short_no_digit c named e low high =
    let a = differs set_letter 49 refl c named e in
    let b = differs set_letter 50 refl c named e in
    let d = differs set_letter 51 refl c named e in
    let f = differs set_letter 52 refl c named e in
    let g = differs set_letter 53 refl c named e in
    let h = differs set_letter 54 refl c named e in
    let i = differs set_letter 55 refl c named e in
    let j = differs set_letter 56 refl c named e in
    let k = differs set_letter 57 refl c named e in
    grind (arith, nat_tests)

-- No escape begins with a digit but 0.
pub escape_head_digit : (e : Escape) (rest : List ℕ) → IsEscape e rest → 49 ≤ escape_head e → escape_head e ≤ 57 → ⊥
escape_head_digit (Sign c value) rest is low high = sign_no_digit c value is low high
escape_head_digit (Short c named) rest is low high = short_no_digit c named is low high
escape_head_digit (Hex ds) rest is low high = absurd (omega (arith, high))
escape_head_digit (Braced ds) rest is low high = absurd (omega (arith, high))
escape_head_digit (Unicode ds) rest is low high = absurd (omega (arith, high))
escape_head_digit (Octal ds) rest is low high = absurd (omega (arith, low))
escape_head_digit (Property true caret name set) rest is low high = absurd (omega (arith, high))
escape_head_digit (Property false caret name set) rest is low high = absurd (omega (arith, high))
