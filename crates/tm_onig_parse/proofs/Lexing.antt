-- One thing is read exactly as it is spelled.
use Rattle.std.proofs.Common.{◌≡◌, ℕ, ◌<◌, Bool, true, false, List, [], ◌∷◌, ◌++◌, ◌&&◌, ◌||◌, length, Option, Some, None, option_map, refl, sym, ap, ◌∙◌, subst, inl, inr, arith, length-append, append_assoc}
use Rattle.std.specs.Prelude.{◌==◌}
use Rattle.std.specs.List.{list_any}
use Rattle.std.proofs.lemmas.Bool.{cases_Bool, eqb-true, eq-eqb, and_parts}
use Rattle.tm_onig_class.specs.Tree.{Tree, Holds}
use Rattle.tm_onig_class.specs.declared.patterns.Position.{Position}
use Rattle.tm_onig_atom.specs.declared.options.Options.{Options}
use Rattle.tm_onig_atom.specs.inner.ClassReading.{class_at}
use Rattle.tm_onig_atom.specs.Classes.{Class, inside, class_height}
use Rattle.tm_onig_atom.specs.Escapes.{Escape, escape_head, escape_text}
use Rattle.tm_onig_atom.specs.inner.Reading as Atoms
use Rattle.tm_onig_atom.proofs.ClassExact.{class_again, class_found}
use Rattle.tm_onig_atom.proofs.EscapeExact.{escape_again as character_again, escape_found as character_found}
use Rattle.tm_onig_atom.proofs.Texts.{chosen, differs, or_parts}
use Rattle.tm_onig_parse.specs.declared.quantifiers.Manner.TheVariants.{Lazy}
use Rattle.tm_onig_parse.specs.Characters.{single_tree, is_special, place_letter}
use Rattle.tm_onig_parse.specs.Intervals.{Bounds, bounds_text, IsBounds, NoBounds, least_in, greatest_in}
use Rattle.tm_onig_parse.specs.Names.{Names, reference_text, key_of, meant_in}
use Rattle.tm_onig_parse.specs.Things.{is_blank, skips, begins_reference, back_tree, Atom, Plain, Escaped, Placed, Bracketed, Refers, atom_text, IsAtom, Opening, Capture, Named, Group, Keep, Look, opening_text, sign_bounds, Amount, Sign, Braces, amount_text, IsAmount, least_of, greatest_of, Mark, mark_text, EndsMark, takes_plus, with_question, manner_of, Skip, Comment, Blank, Remark, skip_text, ends_line, IsSkip, Tok, Single, Opens, Setting, Closing, Bar, Times, Skipped, text_of, IsTok}
use Rattle.tm_onig_parse.specs.Meaning.{atom_built, nested, leaf}
use Rattle.tm_onig_parse.specs.inner.Reading.{Sym, Means, Repeats, Skips, Found, bounds_at, comment_at, open_at, groups_at, times_at, interval_at, braces_at, means, means_escape, place_or, escape_at, means_class, line_end, bounds_or, sign_or, token_at}
use Rattle.tm_onig_parse.proofs.BoundsExact.{bounds_again, bounds_found, no_bounds, lacks_bounds}
use Rattle.tm_onig_parse.proofs.BoundsValues.{Interval, interval_again, interval_found}
use Rattle.tm_onig_parse.proofs.Marks.{mark_again, mark_found, question_same}
use Rattle.tm_onig_parse.proofs.Blank.{blank_differs, no_blanks}
use Rattle.tm_onig_parse.proofs.OneRead.{sym_of, Reads, reads_by, reads_as}
use Rattle.tm_onig_parse.proofs.ReferencesExact.{escape_again, Referred, reference_found}
use Rattle.tm_onig_parse.proofs.OpeningsExact.{comment_again, behind_bracket, opening_again, setting_again, open_found}

-- The character begins nothing of its own.
record Ordinary (c : ℕ) : Type 0 where
  is_40 : (c == 40) ≡ false
  is_41 : (c == 41) ≡ false
  is_124 : (c == 124) ≡ false
  is_92 : (c == 92) ≡ false
  is_91 : (c == 91) ≡ false

-- what stands alone is ordinary
single_ordinary : (o : Options) (c : ℕ) (tree : Tree) → single_tree o c ≡ Some tree → Ordinary c
unfolding single_tree is_special
single_ordinary o c tree e = record {
  is_40 = differs (single_tree o) 40 refl c tree e;
  is_41 = differs (single_tree o) 41 refl c tree e;
  is_124 = differs (single_tree o) 124 refl c tree e;
  is_92 = differs (single_tree o) 92 refl c tree e;
  is_91 = differs (single_tree o) 91 refl c tree e;
}

-- what is none of the three signs
no_sign : (c : ℕ) → (c == 63) ≡ false → (c == 42) ≡ false → (c == 43) ≡ false → sign_bounds c ≡ None
unfolding sign_bounds
no_sign c a b d = rw (a, b, d) refl

-- what stands alone is no sign
single_no_sign : (o : Options) (c : ℕ) (tree : Tree) → single_tree o c ≡ Some tree → sign_bounds c ≡ None
unfolding single_tree is_special
single_no_sign o c tree e = no_sign c (differs (single_tree o) 63 refl c tree e) (differs (single_tree o) 42 refl c tree e) (differs (single_tree o) 43 refl c tree e)

-- a sign is ordinary
sign_ordinary : (c : ℕ) (bounds : ℕ × Option ℕ) → sign_bounds c ≡ Some bounds → Ordinary c
unfolding sign_bounds
sign_ordinary c bounds e = record {
  is_40 = differs sign_bounds 40 refl c bounds e;
  is_41 = differs sign_bounds 41 refl c bounds e;
  is_124 = differs sign_bounds 124 refl c bounds e;
  is_92 = differs sign_bounds 92 refl c bounds e;
  is_91 = differs sign_bounds 91 refl c bounds e;
}

-- an ordinary character goes to the last case
ordinary_token : (names : Option Names) (o : Options) (c : ℕ) (t : List ℕ) → Ordinary c → token_at names o (c ∷ t) ≡ sign_or o (sign_bounds c) c t
unfolding token_at
ordinary_token names o c t p = rw (p.is_40, p.is_41, p.is_124, p.is_92, p.is_91) refl

-- a `{` that begins no bounds is a character
brace_again : (c : ℕ) (rest : List ℕ) → (c ≡ 123 → NoBounds rest) → ((c == 123) && bounds_at rest) ≡ false
brace_again c rest none = elim (cases_Bool (c == 123)) [
  | inl is ↦ rw is (no_bounds rest (none (eqb-true c 123 is)))
  | inr other ↦ rw other refl
]

-- a `{` that was a character
brace_found : (c : ℕ) (rest : List ℕ) → ((c == 123) && bounds_at rest) ≡ false → c ≡ 123 → NoBounds rest
brace_found c rest e is = lacks_bounds rest (rw (eq-eqb c 123 is) at e)

-- what is not skipped is neither white space nor a `#` that begins a remark
not_skipped : (o : Options) (c : ℕ) → skips o c ≡ false → ((o.extended && is_blank c) ≡ false) × ((o.extended && (c == 35)) ≡ false)
not_skipped o c e = parts o.extended (is_blank c) (c == 35) e
  where
    parts : (x b h : Bool) → (x && (b || h)) ≡ false → ((x && b) ≡ false) × ((x && h) ≡ false)
    parts false b h e = (refl, refl)
    parts true false h e = (refl, e)
    parts true true h e = absurd cc

-- what is neither is not skipped
is_kept : (o : Options) (c : ℕ) → (o.extended && is_blank c) ≡ false → (o.extended && (c == 35)) ≡ false → skips o c ≡ false
is_kept o c e f = parts o.extended (is_blank c) (c == 35) e f
  where
    parts : (x b h : Bool) → (x && b) ≡ false → (x && h) ≡ false → (x && (b || h)) ≡ false
    parts false b h e f = refl
    parts true false h e f = f
    parts true true h e f = absurd cc

-- a character that is not skipped
bounds_or_char : (o : Options) (c : ℕ) (t : List ℕ) → skips o c ≡ false → sign_or o None c t ≡ bounds_or o c t
bounds_or_char o c t e = let p = not_skipped o c e in rw (p.0, p.1) refl

-- a `{` is not skipped
brace_kept : (o : Options) → skips o 123 ≡ false
brace_kept o = is_kept o 123 (both o.extended (is_blank 123) no_blanks.is_123) (both o.extended (123 == 35) refl)
  where
    both : (x b : Bool) → b ≡ false → (x && b) ≡ false
    both true b e = e
    both false b e = refl

-- what is ordinary stands alone
plain_again : (names : Option Names) (o : Options) (c : ℕ) (tree : Tree) (rest : List ℕ) → IsAtom names (Plain c tree) o rest → token_at names o (c ∷ rest) ≡ Some (Means (atom_built (Plain c tree)), rest)
plain_again names o c tree rest is =
    ordinary_token names o c rest (single_ordinary o c tree is.0)
    ∙ ap (λ b. sign_or o b c rest) (single_no_sign o c tree is.0)
    ∙ bounds_or_char o c rest is.1
    ∙ (rw (brace_again c rest is.2, is.0) refl)

-- a place begins no reference
place_no_reference : (c : ℕ) (place : Position) → place_letter c ≡ Some place → begins_reference c ≡ false
unfolding place_letter
place_no_reference c place e = elim (chosen (c == 98) _ _ _ e) [
  | inl h ↦ rw (eqb-true c 98 h.0) refl
  | inr h ↦ elim (chosen (c == 66) _ _ _ h.1) [
    | inl g ↦ rw (eqb-true c 66 g.0) refl
    | inr g ↦ elim (chosen (c == 65) _ _ _ g.1) [
      | inl f ↦ rw (eqb-true c 65 f.0) refl
      | inr f ↦ elim (chosen (c == 71) _ _ _ f.1) [
        | inl d ↦ rw (eqb-true c 71 d.0) refl
        | inr d ↦ elim (chosen (c == 90) _ _ _ d.1) [
          | inl b ↦ rw (eqb-true c 90 b.0) refl
          | inr b ↦ elim (chosen (c == 122) _ _ _ b.1) [
            | inl a ↦ rw (eqb-true c 122 a.0) refl
            | inr a ↦ absurd cc
          ]
        ]
      ]
    ]
  ]
]

-- an escape that is written is read
escaped_again : (names : Option Names) (o : Options) (e : Escape) (tree : Tree) (rest : List ℕ) → IsAtom names (Escaped e tree) o rest →
    escape_at names o (escape_text e ++ rest) ≡ Some (Means (leaf tree), rest)
unfolding escape_at
escaped_again names o e tree rest is =
    (rw (is.0, is.1) (ap means_escape (character_again e o rest is.2))) ∙ ap (λ (t : Tree). Some (Means (leaf t), rest)) is.3

-- a place that is written is read
placed_again : (names : Option Names) (o : Options) (c : ℕ) (place : Position) (rest : List ℕ) → place_letter c ≡ Some place → escape_at names o (c ∷ rest) ≡ Some (Means (leaf (Holds place)), rest)
unfolding escape_at
placed_again names o c place rest is = rw (place_no_reference c place is, is) refl

-- a class that is written is read
bracketed_again : (names : Option Names) (o : Options) (k : Class) (tree : Tree) (rest : List ℕ) → IsAtom names (Bracketed k tree) o rest →
    means_class (class_at 200 o (inside k ++ rest)) ≡ Some (Means (nested tree (class_height k)), rest)
bracketed_again names o k tree rest is = ap means_class (class_again k 200 o rest is.0 is.1) ∙ ap (λ (t : Tree). Some (Means (nested t (class_height k)), rest)) is.2

-- an atom that is written is read
atom_again : (names : Option Names) (a : Atom) (o : Options) (rest : List ℕ) → IsAtom names a o rest → token_at names o (atom_text a ++ rest) ≡ Some (Means (atom_built a), rest)
unfolding token_at
atom_again names (Plain c tree) o rest is = plain_again names o c tree rest is
atom_again names (Escaped e tree) o rest is = escaped_again names o e tree rest is
atom_again names (Placed c place) o rest is = placed_again names o c place rest is
atom_again names (Bracketed k tree) o rest is = bracketed_again names o k tree rest is
atom_again names (Refers r tree) o rest is = escape_again names r o rest is.0 ∙ ap (λ t. means t rest) is.1

-- a `{` that begins bounds
brace_token : (names : Option Names) (o : Options) (t : List ℕ) → bounds_at t ≡ true → token_at names o (123 ∷ t) ≡ braces_at (interval_at t)
unfolding token_at sign_bounds
brace_token names o t some = bounds_or_char o 123 t (brace_kept o) ∙ (rw some refl)

-- a quantifier that is written is read
times_again : (names : Option Names) (a : Amount) (mark : Mark) (o : Options) (rest : List ℕ) → IsAmount a → EndsMark (takes_plus a) mark rest →
    token_at names o ((amount_text a ++ mark_text mark) ++ rest) ≡ Some (Repeats (least_of a) (greatest_of a) (manner_of a mark), rest)
times_again names (Sign sign least greatest) mark o rest is ends =
    ordinary_token names o sign (mark_text mark ++ rest) (sign_ordinary sign _ is) ∙ (rw is (mark_again least greatest Lazy true mark rest ends))
times_again names (Braces b) mark o rest is ends =
    let more = mark_text mark ++ rest in
    ap (λ u. token_at names o (123 ∷ u)) (append_assoc (bounds_text b) (mark_text mark) rest)
    ∙ brace_token names o (bounds_text b ++ more) (bounds_again b more is.0)
    ∙ (rw (interval_again b more is.0 is.1, question_same b) (mark_again (least_in b) (greatest_in b) (with_question (Braces b)) false mark rest ends))

-- the end of the line behind what has none
line_end_again : (text rest : List ℕ) → list_any (λ c. c == 10) text ≡ false → ends_line rest ≡ true → line_end (text ++ rest) ≡ rest
unfolding line_end
line_end_again [] [] none ends = refl
line_end_again [] (c ∷ t) none ends = rw ends refl
line_end_again (c ∷ text) rest none ends = let parts = or_parts (c == 10) (list_any (λ c. c == 10) text) none in rw parts.0 (line_end_again text rest parts.1 ends)

-- white space is ordinary
blank_ordinary : (c : ℕ) → is_blank c ≡ true → Ordinary c
blank_ordinary c is = record {
  is_40 = blank_differs c 40 is no_blanks.is_40;
  is_41 = blank_differs c 41 is no_blanks.is_41;
  is_124 = blank_differs c 124 is no_blanks.is_124;
  is_92 = blank_differs c 92 is no_blanks.is_92;
  is_91 = blank_differs c 91 is no_blanks.is_91;
}

-- and no sign
blank_no_sign : (c : ℕ) → is_blank c ≡ true → sign_bounds c ≡ None
blank_no_sign c is = no_sign c (blank_differs c 63 is no_blanks.is_63) (blank_differs c 42 is no_blanks.is_42) (blank_differs c 43 is no_blanks.is_43)

-- white space that is written is read
blank_again : (names : Option Names) (c : ℕ) (o : Options) (rest : List ℕ) → (o.extended && is_blank c) ≡ true → token_at names o (c ∷ rest) ≡ Some (Skips, rest)
blank_again names c o rest is =
    let blank = (and_parts o.extended (is_blank c) is).1 in
    ordinary_token names o c rest (blank_ordinary c blank) ∙ ap (λ b. sign_or o b c rest) (blank_no_sign c blank) ∙ (rw is refl)

-- a remark that is written is read
remark_again : (names : Option Names) (text : List ℕ) (o : Options) (rest : List ℕ) → IsSkip (Remark text) o rest → token_at names o (35 ∷ (text ++ rest)) ≡ Some (Skips, rest)
unfolding token_at sign_bounds
remark_again names text o rest is = rw (is.0, no_blanks.is_35, line_end_again text rest is.1 is.2) refl

-- What is skipped is read.
skip_again : (names : Option Names) (s : Skip) (o : Options) (rest : List ℕ) → IsSkip s o rest → token_at names o (skip_text s ++ rest) ≡ Some (Skips, rest)
unfolding token_at open_at groups_at
skip_again names (Comment text) o rest is = ap comment_at (append_assoc text (41 ∷ []) rest) ∙ comment_again text rest is
skip_again names (Blank c) o rest is = blank_again names c o rest is
skip_again names (Remark text) o rest is = remark_again names text o rest is

-- an opening begins with its bracket
bracket_token : (names : Option Names) (k : Opening) (o : Options) (rest : List ℕ) → token_at names o (opening_text k ++ rest) ≡ open_at o (behind_bracket (opening_text k ++ rest))
unfolding token_at
bracket_token names Capture o rest = refl
bracket_token names (Named true name) o rest = refl
bracket_token names (Named false name) o rest = refl
bracket_token names (Group letters after) o rest = refl
bracket_token names Keep o rest = refl
bracket_token names (Look true false) o rest = refl
bracket_token names (Look true true) o rest = refl
bracket_token names (Look false false) o rest = refl
bracket_token names (Look false true) o rest = refl

-- A thing that is written is read.
pub token_again : (names : Option Names) (k : Tok) (o : Options) (rest : List ℕ) → IsTok names k o rest → token_at names o (text_of k ++ rest) ≡ Some (sym_of k o, rest)
unfolding token_at
token_again names (Single a) o rest is = atom_again names a o rest is
token_again names (Opens k) o rest is = bracket_token names k o rest ∙ opening_again k o rest is
token_again names (Setting letters after) o rest is = setting_again letters o after rest is
token_again names Closing o rest is = refl
token_again names Bar o rest is = refl
token_again names (Times amount mark) o rest is = times_again names amount mark o rest is.0 is.1
token_again names (Skipped s) o rest is = skip_again names s o rest is

-- a quantifier that is read
times_found : (names : Option Names) (a : Amount) (o : Options) → IsAmount a → (t : List ℕ) (y : Sym) (rest : List ℕ) →
    times_at (least_of a) (greatest_of a) (with_question a) (takes_plus a) t ≡ Some (y, rest) → Reads names o (amount_text a ++ t) y rest
times_found names a o is t y rest e =
    let m = mark_found (least_of a) (greatest_of a) (with_question a) (takes_plus a) t y rest e in
    record {
      tok = Times a m.mark;
      whole = ap (λ u. amount_text a ++ u) m.whole ∙ sym (append_assoc (amount_text a) (mark_text m.mark) rest);
      is = (is, m.ends);
      means = m.means;
    }

-- bounds that are read
bounds_read : (names : Option Names) (b : Bounds) (o : Options) (more : List ℕ) → IsBounds b → (r : Option Interval) → interval_at (bounds_text b ++ more) ≡ r →
    (y : Sym) (rest : List ℕ) → braces_at r ≡ Some (y, rest) → Reads names o (123 ∷ (bounds_text b ++ more)) y rest
bounds_read names b o more is None at y rest e = absurd cc
bounds_read names b o more is (Some x) at y rest e =
    let w = interval_found b more x is at in
    let again = ap (λ (x : Interval). braces_at (Some x)) w.is ∙ e in
    times_found names (Braces b) o (is, w.low) more y rest (rw (question_same b) at again)

-- a `{` that begins bounds
braces_found : (names : Option Names) (o : Options) (t : List ℕ) (y : Sym) (rest : List ℕ) → bounds_at t ≡ true → braces_at (interval_at t) ≡ Some (y, rest) → Reads names o (123 ∷ t) y rest
braces_found names o t y rest some e =
    let b = bounds_found t some in
    subst (λ u. Reads names o (123 ∷ u) y rest) (sym b.whole) (bounds_read names b.bounds o b.more b.is (interval_at (bounds_text b.bounds ++ b.more)) refl y rest (rw b.whole at e))

-- an escape that is read
escape_read : (names : Option Names) (o : Options) (t : List ℕ) → ((e : Escape) (after : List ℕ) → t ≡ escape_text e ++ after → (begins_reference (escape_head e) ≡ false) × (place_letter (escape_head e) ≡ None)) →
    (r : Option (Tree × List ℕ)) → Atoms.escape_at o t ≡ r → (y : Sym) (rest : List ℕ) → means_escape r ≡ Some (y, rest) → Reads names o (92 ∷ t) y rest
escape_read names o t free None is y rest e = absurd cc
escape_read names o t free (Some x) is y rest e =
    let f = character_found o t x.0 x.1 is in
    let fr = free f.escape x.1 f.whole in
    reads_as names o (92 ∷ t) (92 ∷ (escape_text f.escape ++ x.1)) y rest (ap (λ u. 92 ∷ u) f.whole)
    (reads_by names (Single (Escaped f.escape x.0)) o x.1 y rest (fr.0, fr.1, f.is, sym f.means) e)

-- the first of a text
same_first : (c d : ℕ) (t u : List ℕ) → c ∷ t ≡ d ∷ u → c ≡ d
same_first c d t u e = cc

-- a place, or an escape that is read
place_or_found : (names : Option Names) (o : Options) (c : ℕ) → begins_reference c ≡ false → (place : Option Position) → place_letter c ≡ place → (t : List ℕ) (y : Sym) (rest : List ℕ) →
    place_or o place c t ≡ Some (y, rest) → Reads names o (92 ∷ c ∷ t) y rest
place_or_found names o c other (Some place) is t y rest e = reads_by names (Single (Placed c place)) o t y rest is e
place_or_found names o c other None is t y rest e = escape_read names o (c ∷ t) (λ k after whole.
    let same = same_first c (escape_head k) t _ whole in
    (subst (λ d. begins_reference d ≡ false) same other, subst (λ d. place_letter d ≡ None) same is)) (Atoms.escape_at o (c ∷ t)) refl y rest e

-- a reference that is read, with what it means
back_found : (names : Option Names) (o : Options) (t : List ℕ) (y : Sym) (rest : List ℕ) (r : Referred names o t y rest) (m : Option Tree) → option_map (back_tree o) (meant_in names (key_of r.reference)) ≡ m →
    means m r.after ≡ Some (y, rest) → Reads names o (92 ∷ t) y rest
back_found names o t y rest r None is e = absurd cc
back_found names o t y rest r (Some tree) is e =
    reads_as names o (92 ∷ t) (92 ∷ (reference_text r.reference ++ r.after)) y rest (ap (λ u. 92 ∷ u) r.whole) (reads_by names (Single (Refers r.reference tree)) o r.after y rest (r.is, is) e)

-- what stands behind a backslash
slash_found : (names : Option Names) (o : Options) (t : List ℕ) (y : Sym) (rest : List ℕ) → escape_at names o t ≡ Some (y, rest) → Reads names o (92 ∷ t) y rest
unfolding escape_at
slash_found names o [] y rest e = absurd cc
slash_found names o (c ∷ t) y rest e = elim (chosen (begins_reference c) _ _ _ e) [
  | inl h ↦
      let r = reference_found names o c t y rest h.0 h.1 in
      back_found names o (c ∷ t) y rest r (option_map (back_tree o) (meant_in names (key_of r.reference))) refl r.means
  | inr h ↦ place_or_found names o c h.0 (place_letter c) refl t y rest h.1
]

-- a character that is read
single_found : (names : Option Names) (o : Options) (c : ℕ) (t : List ℕ) → skips o c ≡ false → (c ≡ 123 → NoBounds t) → (r : Option Tree) → single_tree o c ≡ r → (y : Sym) (rest : List ℕ) →
    means r t ≡ Some (y, rest) → Reads names o (c ∷ t) y rest
single_found names o c t kept none None is y rest e = absurd cc
single_found names o c t kept none (Some tree) is y rest e = reads_by names (Single (Plain c tree)) o t y rest (is, kept, none) e

-- bounds, or a character that is read
bounds_or_found : (names : Option Names) (o : Options) (c : ℕ) → skips o c ≡ false → (t : List ℕ) (y : Sym) (rest : List ℕ) → bounds_or o c t ≡ Some (y, rest) → Reads names o (c ∷ t) y rest
bounds_or_found names o c kept t y rest e = elim (chosen ((c == 123) && bounds_at t) _ _ _ e) [
  | inl h ↦
      let both = and_parts (c == 123) (bounds_at t) h.0 in
      rw (eqb-true c 123 both.0) (braces_found names o t y rest both.1 h.1)
  | inr h ↦ single_found names o c t kept (brace_found c t h.0) (single_tree o c) refl y rest h.1
]

-- The rest of a line.
record Line (t : List ℕ) : Type 0 where
  text : List ℕ
  whole : t ≡ text ++ line_end t
  none : list_any (λ c. c == 10) text ≡ false
  ends : ends_line (line_end t) ≡ true

-- one character more
line_more : (c : ℕ) (t : List ℕ) → (c == 10) ≡ false → Line t → Line (c ∷ t)
unfolding line_end
line_more c t other l = record { text = c ∷ l.text; whole = rw other (ap (λ u. c ∷ u) l.whole); none = rw other l.none; ends = rw other l.ends }

-- a text begins with the rest of a line
line_of : (t : List ℕ) → Line t
unfolding line_end
line_of [] = record { text = []; whole = refl; none = refl; ends = refl }
line_of (c ∷ t) = elim (cases_Bool (c == 10)) [
  | inl h ↦ record { text = []; whole = rw h refl; none = refl; ends = rw h h }
  | inr h ↦ line_more c t h (line_of t)
]

-- a remark that is read
remark_found : (names : Option Names) (o : Options) (t : List ℕ) (y : Sym) (rest : List ℕ) → o.extended ≡ true → ◌≡◌ {A = Found} (Some (Skips, line_end t)) (Some (y, rest)) → Reads names o (35 ∷ t) y rest
remark_found names o t y rest is e =
    let l = line_of t in
    reads_as names o (35 ∷ t) (35 ∷ (l.text ++ line_end t)) y rest (ap (λ u. 35 ∷ u) l.whole) (reads_by names (Skipped (Remark l.text)) o (line_end t) y rest (is, l.none, l.ends) e)

-- the last case
sign_found : (names : Option Names) (o : Options) (c : ℕ) (b : Option (ℕ × Option ℕ)) → sign_bounds c ≡ b → (t : List ℕ) (y : Sym) (rest : List ℕ) → sign_or o b c t ≡ Some (y, rest) → Reads names o (c ∷ t) y rest
sign_found names o c None is t y rest e = elim (chosen (o.extended && is_blank c) _ _ _ e) [
  | inl h ↦ reads_by names (Skipped (Blank c)) o t y rest h.0 h.1
  | inr h ↦ elim (chosen (o.extended && (c == 35)) _ _ _ h.1) [
    | inl g ↦
        let both = and_parts o.extended (c == 35) g.0 in
        rw (eqb-true c 35 both.1) (remark_found names o t y rest both.0 g.1)
    | inr g ↦ bounds_or_found names o c (is_kept o c h.0 g.0) t y rest g.1
  ]
]
sign_found names o c (Some bounds) is t y rest e = times_found names (Sign c bounds.0 bounds.1) o is t y rest e

-- a `[` that is read
brackets_found : (names : Option Names) (o : Options) (t : List ℕ) (r : Option ((Tree × ℕ) × List ℕ)) → class_at 200 o t ≡ r → (y : Sym) (rest : List ℕ) → means_class r ≡ Some (y, rest) → Reads names o (91 ∷ t) y rest
brackets_found names o t None is y rest e = absurd cc
brackets_found names o t (Some x) is y rest e =
    let f = class_found 200 o t x.0.0 x.0.1 x.1 is in
    reads_as names o (91 ∷ t) (91 ∷ (inside f.class ++ x.1)) y rest (ap (λ u. 91 ∷ u) f.whole)
    (reads_by names (Single (Bracketed f.class x.0.0)) o x.1 y rest (f.is, f.low, sym f.means) (ap (λ h. Some (Means (nested x.0.0 h), x.1)) (sym f.high) ∙ e))

-- A thing that is read is written.
pub token_found : (names : Option Names) (o : Options) (t : List ℕ) (y : Sym) (rest : List ℕ) → token_at names o t ≡ Some (y, rest) → Reads names o t y rest
unfolding token_at
token_found names o [] y rest e = absurd cc
token_found names o (c ∷ t) y rest e = elim (chosen (c == 40) _ _ _ e) [
  | inl h ↦ rw (eqb-true c 40 h.0) (open_found names o t y rest h.1)
  | inr h ↦ elim (chosen (c == 41) _ _ _ h.1) [
    | inl g ↦ rw (eqb-true c 41 g.0) (reads_by names Closing o t y rest tt g.1)
    | inr g ↦ elim (chosen (c == 124) _ _ _ g.1) [
      | inl f ↦ rw (eqb-true c 124 f.0) (reads_by names Bar o t y rest tt f.1)
      | inr f ↦ elim (chosen (c == 92) _ _ _ f.1) [
        | inl d ↦ rw (eqb-true c 92 d.0) (slash_found names o t y rest d.1)
        | inr d ↦ elim (chosen (c == 91) _ _ _ d.1) [
          | inl b ↦ rw (eqb-true c 91 b.0) (brackets_found names o t (class_at 200 o t) refl y rest b.1)
          | inr b ↦ sign_found names o c (sign_bounds c) refl t y rest b.1
        ]
      ]
    ]
  ]
]

-- an atom is not empty
atom_length : (a : Atom) → 0 < length (atom_text a)
atom_length (Plain c tree) = omega arith
atom_length (Escaped e tree) = omega arith
atom_length (Placed c place) = omega arith
atom_length (Bracketed k tree) = omega arith
atom_length (Refers r tree) = omega arith

-- an opening is not empty
opening_length : (k : Opening) → 0 < length (opening_text k)
opening_length Capture = omega arith
opening_length (Named true name) = omega arith
opening_length (Named false name) = omega arith
opening_length (Group letters o) = omega arith
opening_length Keep = omega arith
opening_length (Look true false) = omega arith
opening_length (Look true true) = omega arith
opening_length (Look false false) = omega arith
opening_length (Look false true) = omega arith

-- no thing is empty
pub text_length : (k : Tok) → 0 < length (text_of k)
text_length (Single a) = atom_length a
text_length (Opens k) = opening_length k
text_length (Setting letters o) = omega arith
text_length Closing = omega arith
text_length Bar = omega arith
text_length (Times (Sign sign least greatest) mark) = omega arith
text_length (Times (Braces b) mark) = omega arith
text_length (Skipped (Comment text)) = omega arith
text_length (Skipped (Blank c)) = omega arith
text_length (Skipped (Remark text)) = omega arith

-- each thing takes a character
pub token_shorter : (names : Option Names) (o : Options) (t : List ℕ) (y : Sym) (rest : List ℕ) → token_at names o t ≡ Some (y, rest) → length rest < length t
token_shorter names o t y rest e =
    let r = token_found names o t y rest e in
    omega (arith, text_length r.tok, simp length-append at (ap length r.whole))
