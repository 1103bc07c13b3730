-- What stands behind a `(` is read exactly as it is spelled.
use Rattle.std.proofs.Common.{◌≡◌, ℕ, ◌<◌, Bool, true, false, List, [], ◌∷◌, ◌++◌, length, Option, Some, None, refl, sym, ap, ◌∙◌, subst, inl, inr, arith, append_assoc}
use Rattle.std.specs.Prelude.{◌==◌}
use Rattle.std.specs.List.{list_any, list_all}
use Rattle.std.proofs.lemmas.Bool.{cases_Bool, eqb-true, ne_eqb, and_parts}
use Rattle.tm_onig_atom.specs.declared.options.Options.{Options}
use Rattle.tm_onig_parse.specs.declared.groups.Opener.TheVariants.{Captures, Groups}
use Rattle.tm_onig_atom.specs.Escapes.{begins}
use Rattle.tm_onig_parse.specs.Names.{Names, is_name_char, IsName}
use Rattle.tm_onig_parse.specs.Options.{letter, switched}
use Rattle.tm_onig_parse.specs.Things.{Opening, Capture, Named, Group, Keep, Look, opening_text, IsOpening, Opens, Setting, Skipped, Comment}
use Rattle.tm_onig_parse.specs.inner.Reading.{Sym, Open, Switches, Skips, Found, comment_at, name_to, named_at, behind_at, switch_at, groups_at, open_at}
use Rattle.tm_onig_atom.proofs.Texts.{chosen, bind_ok, differs, or_parts}
use Rattle.tm_onig_parse.proofs.OneRead.{sym_of, same_pair, Reads, reads_by, reads_as}
use Rattle.tm_onig_parse.proofs.NamesExact.{name_to_again, name_to_found}

-- what stands behind the brackets of letters of options
abbrev end_sign : Bool → ℕ
end_sign true = 41
end_sign false = 58

-- what they are read as
abbrev switch_sym : Bool → Options → Sym
switch_sym true o = Switches o
switch_sym false o = Open Groups None o

-- a letter of options is none of these
not_letter : (on : Bool) (o : Options) (d c : ℕ) (l : Bool × Options) → letter on o d ≡ None → letter on o c ≡ Some l → (c == d) ≡ false
not_letter on o d c l none some = differs (letter on o) d none c l some

-- letters of options that are written are read
switch_again : (letters : List ℕ) (on : Bool) (o after : Options) (closes : Bool) (rest : List ℕ) → switched on o letters ≡ Some after →
    switch_at on o (letters ++ end_sign closes ∷ rest) ≡ Some (switch_sym closes after, rest)
unfolding switch_at letter
switch_again [] on o after true rest e = let same : o ≡ after = cc in ap (λ (p : Options). Some (Switches p, rest)) same
switch_again [] on o after false rest e = let same : o ≡ after = cc in ap (λ (p : Options). Some (Open Groups None p, rest)) same
switch_again (c ∷ letters) on o after closes rest e =
    let b = bind_ok (letter on o c) (λ l. switched l.0 l.1 letters) after e in
    rw (not_letter on o 58 c b.0 refl b.1, not_letter on o 41 c b.0 refl b.1, b.1) (switch_again letters b.0.0 b.0.1 after closes rest b.2)

-- The letters that were read, and the sign behind them.
record Switched (on : Bool) (o : Options) (t : List ℕ) (y : Sym) (rest : List ℕ) : Type 0 where
  letters : List ℕ
  after : Options
  closes : Bool
  whole : t ≡ letters ++ end_sign closes ∷ rest
  is : switched on o letters ≡ Some after
  means : y ≡ switch_sym closes after

-- the sign behind the letters
switch_end : (on : Bool) (o : Options) (closes : Bool) (t : List ℕ) (y : Sym) (rest : List ℕ) → ◌≡◌ {A = Found} (Some (switch_sym closes o, t)) (Some (y, rest)) →
    Switched on o (end_sign closes ∷ t) y rest
switch_end on o closes t y rest e =
    subst (λ (p : Sym × List ℕ). Switched on o (end_sign closes ∷ t) p.0 p.1) (same_pair (switch_sym closes o, t) (y, rest) e)
    (record { letters = []; after = o; closes = closes; whole = refl; is = refl; means = refl })

-- one letter more
switch_more : (on : Bool) (o : Options) (c : ℕ) (t : List ℕ) (y : Sym) (rest : List ℕ) (l : Bool × Options) → letter on o c ≡ Some l → Switched l.0 l.1 t y rest → Switched on o (c ∷ t) y rest
switch_more on o c t y rest l is s = record {
  letters = c ∷ s.letters;
  after = s.after;
  closes = s.closes;
  whole = ap (λ u. c ∷ u) s.whole;
  is = rw is s.is;
  means = s.means;
}

-- letters of options that are read are written
switch_found : (t : List ℕ) (on : Bool) (o : Options) (y : Sym) (rest : List ℕ) → switch_at on o t ≡ Some (y, rest) → Switched on o t y rest
unfolding switch_at
switch_found [] on o y rest e = absurd cc
switch_found (c ∷ t) on o y rest e = elim (chosen (c == 58) _ _ _ e) [
  | inl h ↦ rw (eqb-true c 58 h.0) (switch_end on o false t y rest h.1)
  | inr h ↦ elim (chosen (c == 41) _ _ _ h.1) [
    | inl g ↦ rw (eqb-true c 41 g.0) (switch_end on o true t y rest g.1)
    | inr g ↦
        let b = bind_ok (letter on o c) (λ l. switch_at l.0 l.1 t) (y, rest) g.1 in
        switch_more on o c t y rest b.0 b.1 (switch_found t b.0.0 b.0.1 y rest b.2)
  ]
]

-- A character that begins none of the other forms behind a `(?`.
record IsFree (c : ℕ) : Type 0 where
  is_62 : (c == 62) ≡ false
  is_61 : (c == 61) ≡ false
  is_33 : (c == 33) ≡ false
  is_60 : (c == 60) ≡ false
  is_39 : (c == 39) ≡ false
  is_35 : (c == 35) ≡ false

-- such a character goes to the last case
free_groups : (o : Options) (c : ℕ) (t : List ℕ) → IsFree c → groups_at o (c ∷ t) ≡ switch_at true o (c ∷ t)
unfolding groups_at
free_groups o c t f = rw (f.is_62, f.is_61, f.is_33, f.is_60, f.is_39, f.is_35) refl

-- a letter of options is such a character
letter_free : (o : Options) (c : ℕ) (l : Bool × Options) → letter true o c ≡ Some l → IsFree c
unfolding letter
letter_free o c l e = record {
  is_62 = not_letter true o 62 c l refl e;
  is_61 = not_letter true o 61 c l refl e;
  is_33 = not_letter true o 33 c l refl e;
  is_60 = not_letter true o 60 c l refl e;
  is_39 = not_letter true o 39 c l refl e;
  is_35 = not_letter true o 35 c l refl e;
}

-- letters of options behind a `(?`
letters_groups : (letters : List ℕ) (o after : Options) (closes : Bool) (rest : List ℕ) → switched true o letters ≡ Some after →
    groups_at o (letters ++ end_sign closes ∷ rest) ≡ Some (switch_sym closes after, rest)
letters_groups [] o after true rest e =
    free_groups o 41 rest (record { is_62 = refl; is_61 = refl; is_33 = refl; is_60 = refl; is_39 = refl; is_35 = refl }) ∙ switch_again [] true o after true rest e
letters_groups [] o after false rest e =
    free_groups o 58 rest (record { is_62 = refl; is_61 = refl; is_33 = refl; is_60 = refl; is_39 = refl; is_35 = refl }) ∙ switch_again [] true o after false rest e
letters_groups (c ∷ letters) o after closes rest e =
    let b = bind_ok (letter true o c) (λ l. switched l.0 l.1 letters) after e in
    free_groups o c (letters ++ end_sign closes ∷ rest) (letter_free o c b.0 b.1) ∙ switch_again (c ∷ letters) true o after closes rest e

-- a name begins with none of these
name_front : (name : List ℕ) (d e : ℕ) (t : List ℕ) → IsName name → is_name_char e ≡ false → begins e (name ++ d ∷ t) ≡ false
name_front [] d e t is none = let none : false ≡ true = is.1 in absurd cc
name_front (c ∷ name) d e t is none = ne_eqb c e (λ same. let at : is_name_char e ≡ true = subst (λ x. is_name_char x ≡ true) same (and_parts (is_name_char c) (list_all is_name_char name) is.0).0 in absurd cc)

-- what begins with neither sign of a look is a name
behind_named : (o : Options) (t : List ℕ) → 0 < length t → begins 61 t ≡ false → begins 33 t ≡ false → behind_at o t ≡ named_at 62 o t
unfolding behind_at
behind_named o [] some a b = absurd (omega arith)
behind_named o (c ∷ t) some a b = rw (a, b) refl

-- so many characters at least
name_length : (name : List ℕ) (d : ℕ) (t : List ℕ) → 0 < length (name ++ d ∷ t)
name_length [] d t = omega arith
name_length (c ∷ name) d t = omega arith

-- a name behind a `<`
behind_name : (o : Options) (name rest : List ℕ) → IsName name → behind_at o (name ++ 62 ∷ rest) ≡ Some (Open Captures (Some name) o, rest)
behind_name o name rest is =
    behind_named o (name ++ 62 ∷ rest) (name_length name 62 rest) (name_front name 62 61 rest is refl) (name_front name 62 33 rest is refl)
    ∙ (rw (name_to_again 62 name rest is refl) refl)

-- a comment that is written is read
pub comment_again : (text rest : List ℕ) → list_any (λ c. c == 41) text ≡ false → comment_at (text ++ 41 ∷ rest) ≡ Some (Skips, rest)
unfolding comment_at
comment_again [] rest none = refl
comment_again (c ∷ text) rest none = let parts = or_parts (c == 41) (list_any (λ c. c == 41) text) none in rw parts.0 (comment_again text rest parts.1)

-- a `(` that captures
capture_again : (o : Options) (rest : List ℕ) → begins 63 rest ≡ false → open_at o rest ≡ Some (Open Captures None o, rest)
unfolding open_at
capture_again o [] e = refl
capture_again o (c ∷ t) e = rw e refl

-- The text of an opening behind its `(`, before what follows.
abbrev pub behind_bracket : List ℕ → List ℕ
behind_bracket [] = []
behind_bracket (c ∷ t) = t

-- An opening that is written is read.
pub opening_again : (k : Opening) (o : Options) (rest : List ℕ) → IsOpening k o rest → open_at o (behind_bracket (opening_text k ++ rest)) ≡ Some (sym_of (Opens k) o, rest)
unfolding open_at groups_at behind_at
opening_again Capture o rest is = capture_again o rest is
opening_again (Named true name) o rest is =
    ap (named_at 39 o) (append_assoc name (39 ∷ []) rest) ∙ (rw (name_to_again 39 name rest is refl) refl)
opening_again (Named false name) o rest is = ap (behind_at o) (append_assoc name (62 ∷ []) rest) ∙ behind_name o name rest is
opening_again (Group letters after) o rest is = ap (groups_at o) (append_assoc letters (58 ∷ []) rest) ∙ letters_groups letters o after false rest is
opening_again Keep o rest is = refl
opening_again (Look true false) o rest is = refl
opening_again (Look true true) o rest is = refl
opening_again (Look false false) o rest is = refl
opening_again (Look false true) o rest is = refl

-- Options that are written are read.
pub setting_again : (letters : List ℕ) (o after : Options) (rest : List ℕ) → switched true o letters ≡ Some after →
    open_at o (63 ∷ ((letters ++ 41 ∷ []) ++ rest)) ≡ Some (Switches after, rest)
unfolding open_at
setting_again letters o after rest is = ap (groups_at o) (append_assoc letters (41 ∷ []) rest) ∙ letters_groups letters o after true rest is

-- A comment that was read.
record Commented (t : List ℕ) (y : Sym) (rest : List ℕ) : Type 0 where
  text : List ℕ
  whole : t ≡ text ++ 41 ∷ rest
  none : list_any (λ c. c == 41) text ≡ false
  means : y ≡ Skips

-- the end of a comment, where both pairs are one
comment_by : (t : List ℕ) (y : Sym) (rest : List ℕ) → ◌≡◌ {A = Found} (Some (Skips, t)) (Some (y, rest)) → Commented (41 ∷ t) y rest
comment_by t y rest e =
    let p = same_pair (Skips, t) (y, rest) e in
    subst (λ (p : Sym × List ℕ). Commented (41 ∷ t) p.0 p.1) p (record { text = []; whole = refl; none = refl; means = refl })

-- one character more
comment_more : (c : ℕ) (t : List ℕ) (y : Sym) (rest : List ℕ) → (c == 41) ≡ false → Commented t y rest → Commented (c ∷ t) y rest
comment_more c t y rest other m = record { text = c ∷ m.text; whole = ap (λ u. c ∷ u) m.whole; none = rw other m.none; means = m.means }

-- a comment that is read is written
comment_found : (t : List ℕ) (y : Sym) (rest : List ℕ) → comment_at t ≡ Some (y, rest) → Commented t y rest
unfolding comment_at
comment_found [] y rest e = absurd cc
comment_found (c ∷ t) y rest e = elim (chosen (c == 41) _ _ _ e) [
  | inl h ↦ rw (eqb-true c 41 h.0) (comment_by t y rest h.1)
  | inr h ↦ comment_more c t y rest h.0 (comment_found t y rest h.1)
]

-- a `(?#` that is read
note_found : (names : Option Names) (o : Options) (t : List ℕ) (y : Sym) (rest : List ℕ) → comment_at t ≡ Some (y, rest) → Reads names o (40 ∷ 63 ∷ 35 ∷ t) y rest
note_found names o t y rest e =
    let m = comment_found t y rest e in
    record { tok = Skipped (Comment m.text); whole = ap (λ u. 40 ∷ 63 ∷ 35 ∷ u) (m.whole ∙ sym (append_assoc m.text (41 ∷ []) rest)); is = m.none; means = m.means }

-- a name behind a `(?'` that is read
quoted_found : (names : Option Names) (o : Options) (t : List ℕ) (y : Sym) (rest : List ℕ) → named_at 39 o t ≡ Some (y, rest) → Reads names o (40 ∷ 63 ∷ 39 ∷ t) y rest
quoted_found names o t y rest e =
    let b = bind_ok (name_to 39 t) (λ p. Some (Open Captures (Some p.0) o, p.1)) (y, rest) e in
    let f = name_to_found 39 t b.0.0 b.0.1 b.1 in
    reads_as names o _ _ y rest (ap (λ u. 40 ∷ 63 ∷ 39 ∷ u) (f.0 ∙ sym (append_assoc b.0.0 (39 ∷ []) b.0.1))) (reads_by names (Opens (Named true b.0.0)) o b.0.1 y rest f.1 b.2)

-- a name behind a `(?<` that is read
named_found : (names : Option Names) (o : Options) (t : List ℕ) (y : Sym) (rest : List ℕ) → named_at 62 o t ≡ Some (y, rest) → Reads names o (40 ∷ 63 ∷ 60 ∷ t) y rest
named_found names o t y rest e =
    let b = bind_ok (name_to 62 t) (λ p. Some (Open Captures (Some p.0) o, p.1)) (y, rest) e in
    let f = name_to_found 62 t b.0.0 b.0.1 b.1 in
    reads_as names o _ _ y rest (ap (λ u. 40 ∷ 63 ∷ 60 ∷ u) (f.0 ∙ sym (append_assoc b.0.0 (62 ∷ []) b.0.1))) (reads_by names (Opens (Named false b.0.0)) o b.0.1 y rest f.1 b.2)

-- a `(?<` that is read
behind_found : (names : Option Names) (o : Options) (t : List ℕ) (y : Sym) (rest : List ℕ) → behind_at o t ≡ Some (y, rest) → Reads names o (40 ∷ 63 ∷ 60 ∷ t) y rest
unfolding behind_at
behind_found names o [] y rest e = absurd cc
behind_found names o (c ∷ t) y rest e = elim (chosen (c == 61) _ _ _ e) [
  | inl h ↦ rw (eqb-true c 61 h.0) (reads_by names (Opens (Look false false)) o t y rest tt h.1)
  | inr h ↦ elim (chosen (c == 33) _ _ _ h.1) [
    | inl g ↦ rw (eqb-true c 33 g.0) (reads_by names (Opens (Look false true)) o t y rest tt g.1)
    | inr g ↦ named_found names o (c ∷ t) y rest g.1
  ]
]

-- letters behind a `(?` that are read
letters_found : (names : Option Names) (o : Options) (t : List ℕ) (y : Sym) (rest : List ℕ) → Switched true o t y rest → Reads names o (40 ∷ 63 ∷ t) y rest
letters_found names o t y rest s = by_end s.closes s.whole s.means
  where
    by_end : (closes : Bool) → t ≡ s.letters ++ end_sign closes ∷ rest → y ≡ switch_sym closes s.after → Reads names o (40 ∷ 63 ∷ t) y rest
    by_end true whole means = record { tok = Setting s.letters s.after; whole = ap (λ u. 40 ∷ 63 ∷ u) (whole ∙ sym (append_assoc s.letters (41 ∷ []) rest)); is = s.is; means = means }
    by_end false whole means = record { tok = Opens (Group s.letters s.after); whole = ap (λ u. 40 ∷ 63 ∷ u) (whole ∙ sym (append_assoc s.letters (58 ∷ []) rest)); is = s.is; means = means }

-- a `(?` that is read
groups_found : (names : Option Names) (o : Options) (t : List ℕ) (y : Sym) (rest : List ℕ) → groups_at o t ≡ Some (y, rest) → Reads names o (40 ∷ 63 ∷ t) y rest
unfolding groups_at
groups_found names o [] y rest e = absurd cc
groups_found names o (c ∷ t) y rest e = elim (chosen (c == 62) _ _ _ e) [
  | inl g ↦ rw (eqb-true c 62 g.0) (reads_by names (Opens Keep) o t y rest tt g.1)
  | inr g ↦ elim (chosen (c == 61) _ _ _ g.1) [
    | inl f ↦ rw (eqb-true c 61 f.0) (reads_by names (Opens (Look true false)) o t y rest tt f.1)
    | inr f ↦ elim (chosen (c == 33) _ _ _ f.1) [
      | inl d ↦ rw (eqb-true c 33 d.0) (reads_by names (Opens (Look true true)) o t y rest tt d.1)
      | inr d ↦ elim (chosen (c == 60) _ _ _ d.1) [
        | inl b ↦ rw (eqb-true c 60 b.0) (behind_found names o t y rest b.1)
        | inr b ↦ elim (chosen (c == 39) _ _ _ b.1) [
          | inl q ↦ rw (eqb-true c 39 q.0) (quoted_found names o t y rest q.1)
          | inr q ↦ elim (chosen (c == 35) _ _ _ q.1) [
            | inl a ↦ rw (eqb-true c 35 a.0) (note_found names o t y rest a.1)
            | inr a ↦ letters_found names o (c ∷ t) y rest (switch_found (c ∷ t) true o y rest a.1)
          ]
        ]
      ]
    ]
  ]
]

-- What is read behind a `(` is written.
pub open_found : (names : Option Names) (o : Options) (t : List ℕ) (y : Sym) (rest : List ℕ) → open_at o t ≡ Some (y, rest) → Reads names o (40 ∷ t) y rest
unfolding open_at
open_found names o [] y rest e = reads_by names (Opens Capture) o [] y rest refl e
open_found names o (c ∷ t) y rest e = elim (cases_Bool (c == 63)) [
  | inl h ↦ let at = eqb-true c 63 h in rw at (groups_found names o t y rest (rw at at e))
  | inr h ↦ reads_by names (Opens Capture) o (c ∷ t) y rest h (rw h at e)
]
