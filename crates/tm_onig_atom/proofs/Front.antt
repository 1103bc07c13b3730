-- What stands at the front of a class's text is read exactly as it is spelled.
use Rattle.std.proofs.Common.{◌≡◌, ℕ, ◌≤◌, Bool, true, false, not, ◌&&◌, cond, List, [], ◌∷◌, ◌++◌, Option, Some, None, refl, sym, ap, ◌∙◌, subst, inl, inr, append_assoc}
use Rattle.std.specs.Prelude.{◌==◌, nat_le}
use Rattle.std.proofs.lemmas.Bool.{ne_eqb, eqb-true, le-leb, leb-true, and_parts, both_ways}
use Rattle.tm_onig_atom.specs.declared.meanings.Meant.{Meant}
use Rattle.tm_onig_atom.specs.declared.meanings.Meant.TheVariants.{Character, Members}
use Rattle.tm_onig_atom.specs.declared.parts.Member.TheVariants as M
use Rattle.tm_onig_atom.specs.declared.parts.Part.{Part}
use Rattle.tm_onig_atom.specs.declared.parts.Part.TheVariants.{Adds, Meets}
use Rattle.tm_onig_atom.specs.declared.parts.Front.{Front}
use Rattle.tm_onig_atom.specs.declared.parts.Front.TheVariants as F
use Rattle.tm_onig_atom.specs.Escapes.{begins, of_listed}
use Rattle.tm_onig_atom.specs.inner.Reading.{◌>>=◌, rest_of, meant_at}
use Rattle.tm_onig_atom.specs.Classes.{is_raw, Single, Raw, Slash, single_text, value_of, IsSingle, NoRange, NoPosix, Item, One, Range, Escaped, Posix, Nested, And, item_text, inside, IsItem, part_of}
use Rattle.tm_onig_atom.specs.inner.ClassReading.{char_only, single_at, Fronted, range_to, after_single, after_meant, posix_at, or_opens, front_at}
use Rattle.tm_onig_atom.proofs.Texts.{chosen, bind_ok}
use Rattle.tm_onig_atom.proofs.EscapeExact.{ReadsEscape, meant_again, meant_found}
use Rattle.tm_onig_atom.proofs.PosixExact.{NameRead, behind_open, posix_whole, posix_again, posix_found, no_posix, lacks_posix}

-- what stands for itself is no backslash
raw_slash : (first : Bool) (c : ℕ) → is_raw first c ≡ true → (c == 92) ≡ false
unfolding is_raw
raw_slash true c e = ne_eqb c 92 (λ same. let at : is_raw true 92 ≡ true = subst (λ d. is_raw true d ≡ true) same e in absurd cc)
raw_slash false c e = ne_eqb c 92 (λ same. let at : is_raw false 92 ≡ true = subst (λ d. is_raw false d ≡ true) same e in absurd cc)

-- nor a `[`
raw_open : (first : Bool) (c : ℕ) → is_raw first c ≡ true → (c == 91) ≡ false
unfolding is_raw
raw_open true c e = ne_eqb c 91 (λ same. let at : is_raw true 91 ≡ true = subst (λ d. is_raw true d ≡ true) same e in absurd cc)
raw_open false c e = ne_eqb c 91 (λ same. let at : is_raw false 91 ≡ true = subst (λ d. is_raw false d ≡ true) same e in absurd cc)

-- nor, behind others, a `]`
pub raw_close : (c : ℕ) → is_raw false c ≡ true → (c == 93) ≡ false
unfolding is_raw
raw_close c e = ne_eqb c 93 (λ same. let at : is_raw false 93 ≡ true = subst (λ d. is_raw false d ≡ true) same e in absurd cc)

-- what is not true is false
not_true : (b : Bool) → not b ≡ true → b ≡ false
not_true true e = absurd cc
not_true false e = refl

-- a character that is written is read
single_again : (s : Single) (rest : List ℕ) → IsSingle false s rest → single_at (single_text s ++ rest) ≡ Some (value_of s, rest)
unfolding single_at
single_again (Raw c) rest is = rw (raw_slash false c is.0, is.0, is.1) refl
single_again (Slash e value) rest is = ap (λ (o : Option (Meant × List ℕ)). o >>= char_only) (meant_again e rest is.0) ∙ ap (λ m. char_only (m, rest)) is.1

-- The character that was read.
record ReadsSingle (t : List ℕ) (value : ℕ) (rest : List ℕ) : Type 0 where
  single : Single
  whole : t ≡ single_text single ++ rest
  is : IsSingle false single rest
  means : value ≡ value_of single

-- a character that stands for itself
raw_found : (c : ℕ) (t : List ℕ) (value : ℕ) (rest : List ℕ) → IsSingle false (Raw c) t → ◌≡◌ {A = Option (ℕ × List ℕ)} (Some (c, t)) (Some (value, rest)) → ReadsSingle (c ∷ t) value rest
raw_found c t value rest is e =
    let p : ◌≡◌ {A = ℕ × List ℕ} (c, t) (value, rest) = cc in
    subst (λ (p : ℕ × List ℕ). ReadsSingle (c ∷ t) p.0 p.1) p (record { single = Raw c; whole = refl; is = is; means = refl })

-- an escaped character
slash_single : (t : List ℕ) (m : Meant) (u : List ℕ) (value : ℕ) (rest : List ℕ) → ReadsEscape t m u → char_only (m, u) ≡ Some (value, rest) → ReadsSingle (92 ∷ t) value rest
slash_single t (Character v) u value rest r e =
    let p : ◌≡◌ {A = ℕ × List ℕ} (v, u) (value, rest) = cc in
    subst (λ (p : ℕ × List ℕ). ReadsSingle (92 ∷ t) p.0 p.1) p (record { single = Slash r.escape v; whole = ap (λ u. 92 ∷ u) r.whole; is = (r.is, sym r.means); means = refl })
slash_single t (Members named) u value rest r e = absurd cc

-- a character that is read is written
single_found : (t : List ℕ) (value : ℕ) (rest : List ℕ) → single_at t ≡ Some (value, rest) → ReadsSingle t value rest
unfolding single_at
single_found [] value rest e = absurd cc
single_found (c ∷ t) value rest e = elim (chosen (c == 92) _ _ _ e) [
  | inl h ↦
      let b = bind_ok (meant_at t) char_only (value, rest) h.1 in
      rw (eqb-true c 92 h.0) (slash_single t b.0.0 b.0.1 value rest (meant_found t b.0.0 b.0.1 b.1) b.2)
  | inr h ↦ elim (chosen (is_raw false c && not ((c == 38) && begins 38 t)) _ _ _ h.1) [
    | inl g ↦ let parts = and_parts _ _ g.0 in raw_found c t value rest (parts.0, not_true _ parts.1) g.1
    | inr g ↦ absurd cc
  ]
]

-- what no character follows is no range
range_again : (value : ℕ) (t u : List ℕ) (o : Option (ℕ × List ℕ)) → single_at t ≡ o →
    ((b : Single) (more : List ℕ) → IsSingle false b more → t ≡ single_text b ++ more → ⊥) → range_to value u o ≡ Some (F.Adds (M.Range value value), u)
range_again value t u None is none = refl
range_again value t u (Some (last, r)) is none = let b = single_found t last r is in absurd (none b.single r b.is b.whole)

-- a character before anything else
one_at : (c : ℕ) (t : List ℕ) → NoRange (c ∷ t) → (value : ℕ) (b : Bool) → (c == 45) ≡ b →
    cond b (range_to value (c ∷ t) (single_at t)) (Some (F.Adds (M.Range value value), c ∷ t)) ≡ Some (F.Adds (M.Range value value), c ∷ t)
one_at c t ends value true is = range_again value t (c ∷ t) (single_at t) refl (λ b more single same. ends b more single (let at = eqb-true c 45 is in cc))
one_at c t ends value false is = refl

-- a character alone is read alone
one_again : (rest : List ℕ) → NoRange rest → (value : ℕ) → after_single value rest ≡ Some (F.Adds (M.Range value value), rest)
unfolding after_single
one_again [] ends value = refl
one_again (c ∷ t) ends value = one_at c t ends value (c == 45) refl

-- a character begins what it begins
front_single : (first : Bool) (s : Single) (rest : List ℕ) → IsSingle first s rest → front_at first (single_text s ++ rest) ≡ after_single (value_of s) rest
unfolding front_at
front_single first (Raw c) rest is = rw (raw_slash first c is.0, raw_open first c is.0, is.1, is.0) refl
front_single first (Slash e value) rest is = ap (λ (o : Option (Meant × List ℕ)). o >>= after_meant) (meant_again e rest is.0) ∙ ap (λ m. after_meant (m, rest)) is.1

-- what an item has at its front
abbrev pub front_of : Item → Front
front_of (One s) = F.Adds (M.Range (value_of s) (value_of s))
front_of (Range a b) = F.Adds (M.Range (value_of a) (value_of b))
front_of (Escaped e named) = F.Adds (M.Set named)
front_of (Posix caret name listed) = F.Adds (M.Set (of_listed listed caret))
front_of (Nested k) = F.Opens
front_of And = F.Meets

-- the text behind the front
abbrev pub behind : Item → List ℕ → List ℕ
behind (One s) rest = rest
behind (Range a b) rest = rest
behind (Escaped e named) rest = rest
behind (Posix caret name listed) rest = rest
behind (Nested k) rest = inside k ++ rest
behind And rest = rest

-- a range that is written is read
range_read : (first : Bool) (a b : Single) (rest : List ℕ) → IsItem first (Range a b) rest → front_at first ((single_text a ++ 45 ∷ single_text b) ++ rest) ≡ Some (F.Adds (M.Range (value_of a) (value_of b)), rest)
unfolding after_single
range_read first a b rest is =
    ap (front_at first) (append_assoc (single_text a) (45 ∷ single_text b) rest)
    ∙ front_single first a (45 ∷ (single_text b ++ rest)) is.0
    ∙ ap (range_to (value_of a) (45 ∷ (single_text b ++ rest))) (single_again b rest is.1)
    ∙ (rw (le-leb (value_of a) (value_of b) is.2) refl)

-- The front of an item that is written is read.
pub front_again : (first : Bool) (i : Item) (rest : List ℕ) → IsItem first i rest → ◌≡◌ {A = Fronted} (front_at first (item_text i ++ rest)) (Some (front_of i, behind i rest))
unfolding front_at
front_again first (One s) rest is = front_single first s rest is.0 ∙ one_again rest is.1 (value_of s)
front_again first (Range a b) rest is = range_read first a b rest is
front_again first (Escaped e named) rest is = ap (λ (o : Option (Meant × List ℕ)). o >>= after_meant) (meant_again e rest is.0) ∙ ap (λ m. after_meant (m, rest)) is.1
front_again first (Posix caret name listed) rest is =
    ap (front_at first) (posix_whole caret name rest) ∙ ap (or_opens (behind_open caret name rest)) (posix_again caret name listed rest is)
front_again first (Nested k) rest is = ap (or_opens (inside k ++ rest)) (no_posix (inside k ++ rest) (posix_at (inside k ++ rest)) refl is.1)
front_again first And rest is = refl

-- An item that was read, by its part.
pub record ReadsItem (fold first : Bool) (t : List ℕ) (p : Part) (rest : List ℕ) : Type 0 where
  pub item : Item
  pub whole : t ≡ item_text item ++ rest
  pub is : IsItem first item rest
  pub means : p ≡ part_of fold item

-- What was read at the front.
abbrev pub ReadsFront : Bool → Bool → List ℕ → Front → List ℕ → Type 0
ReadsFront fold first t (F.Adds m) rest = ReadsItem fold first t (Adds m) rest
ReadsFront fold first t F.Meets rest = ReadsItem fold first t Meets rest
ReadsFront fold first t F.Opens rest = (t ≡ 91 ∷ rest) × NoPosix (91 ∷ rest)

-- the same front in both
front_by : (fold first : Bool) (t : List ℕ) (f : Front) (r : List ℕ) (g : Front) (rest : List ℕ) → ReadsFront fold first t f r → ◌≡◌ {A = Fronted} (Some (f, r)) (Some (g, rest)) → ReadsFront fold first t g rest
front_by fold first t f r g rest reads e =
    let p : ◌≡◌ {A = Front × List ℕ} (f, r) (g, rest) = cc in
    subst (λ (p : Front × List ℕ). ReadsFront fold first t p.0 p.1) p reads

-- where no character can be read there is none
no_single : (t : List ℕ) → single_at t ≡ None → NoRange (45 ∷ t)
no_single t lacks b more is e =
    let at : t ≡ single_text b ++ more = cc in
    let some = single_again b more is in
    let found = ap single_at at in
    absurd cc

-- a character alone
one_reads : (fold first : Bool) (s : Single) (t : List ℕ) → IsSingle first s t → NoRange t → ReadsItem fold first (single_text s ++ t) (Adds (M.Range (value_of s) (value_of s))) t
one_reads fold first s t is ends = record { item = One s; whole = refl; is = (is, ends); means = refl }

-- a range with its second character
range_reads : (fold first : Bool) (s : Single) (t : List ℕ) → IsSingle first s (45 ∷ t) → (last : ℕ) (r : List ℕ) → single_at t ≡ Some (last, r) →
    nat_le (value_of s) last ≡ true → ReadsItem fold first (single_text s ++ 45 ∷ t) (Adds (M.Range (value_of s) last)) r
range_reads fold first s t is last r found rises =
    let b = single_found t last r found in
    let order : value_of s ≤ value_of b.single = subst (λ v. value_of s ≤ v) b.means (leb-true (value_of s) last rises) in
    let front : IsSingle first s (45 ∷ (single_text b.single ++ r)) = subst (λ u. IsSingle first s (45 ∷ u)) b.whole is in
    record {
      item = Range s b.single;
      whole = ap (λ u. single_text s ++ 45 ∷ u) b.whole ∙ sym (append_assoc (single_text s) (45 ∷ single_text b.single) r);
      is = (front, b.is, order);
      means = ap (λ v. Adds (M.Range (value_of s) v)) b.means;
    }

-- behind a `-`
range_found : (fold first : Bool) (s : Single) (t : List ℕ) → IsSingle first s (45 ∷ t) → (o : Option (ℕ × List ℕ)) → single_at t ≡ o →
    (f : Front) (rest : List ℕ) → range_to (value_of s) (45 ∷ t) o ≡ Some (f, rest) → ReadsFront fold first (single_text s ++ 45 ∷ t) f rest
range_found fold first s t is None lacks f rest e = front_by fold first _ (F.Adds (M.Range (value_of s) (value_of s))) (45 ∷ t) f rest (one_reads fold first s (45 ∷ t) is (no_single t lacks)) e
range_found fold first s t is (Some (last, r)) found f rest e = elim (chosen (nat_le (value_of s) last) _ _ _ e) [
  | inl h ↦ front_by fold first _ (F.Adds (M.Range (value_of s) last)) r f rest (range_reads fold first s t is last r found h.0) h.1
  | inr h ↦ absurd cc
]

-- what a character begins
after_found : (fold first : Bool) (s : Single) (t : List ℕ) → IsSingle first s t → (f : Front) (rest : List ℕ) → after_single (value_of s) t ≡ Some (f, rest) → ReadsFront fold first (single_text s ++ t) f rest
unfolding after_single
after_found fold first s [] is f rest e = front_by fold first _ (F.Adds (M.Range (value_of s) (value_of s))) [] f rest (one_reads fold first s [] is (λ b more single same. absurd cc)) e
after_found fold first s (c ∷ t) is f rest e = elim (chosen (c == 45) _ _ _ e) [
  | inl h ↦
      let at = eqb-true c 45 h.0 in
      rw at (range_found fold first s t (subst (λ d. IsSingle first s (d ∷ t)) at is) (single_at t) refl f rest (rw at at h.1))
  | inr h ↦ front_by fold first _ (F.Adds (M.Range (value_of s) (value_of s))) (c ∷ t) f rest
      (one_reads fold first s (c ∷ t) is (λ b more single same. let at : c ≡ 45 = cc in let no45 : (c == 45) ≡ true = (rw at refl) in absurd cc)) h.1
]

-- an escape that is read
slash_found : (fold first : Bool) (t : List ℕ) (m : Meant) (u : List ℕ) (f : Front) (rest : List ℕ) → ReadsEscape t m u → after_meant (m, u) ≡ Some (f, rest) → ReadsFront fold first (92 ∷ t) f rest
slash_found fold first t (Character v) u f rest r e =
    subst (λ w. ReadsFront fold first (92 ∷ w) f rest) (sym r.whole) (after_found fold first (Slash r.escape v) u (r.is, sym r.means) f rest e)
slash_found fold first t (Members named) u f rest r e =
    front_by fold first _ (F.Adds (M.Set named)) u f rest (record { item = Escaped r.escape named; whole = ap (λ w. 92 ∷ w) r.whole; is = (r.is, sym r.means); means = refl }) e

-- a `[` that is read
open_found : (fold first : Bool) (t : List ℕ) (o : NameRead) → posix_at t ≡ o → (f : Front) (rest : List ℕ) → or_opens t o ≡ Some (f, rest) → ReadsFront fold first (91 ∷ t) f rest
open_found fold first t None is f rest e = front_by fold first _ F.Opens t f rest (refl, lacks_posix t is) e
open_found fold first t (Some x) is f rest e =
    let p = posix_found t x.0 x.1 is in
    front_by fold first _ (F.Adds (M.Set x.0)) x.1 f rest
    (record { item = Posix p.caret p.name p.listed; whole = ap (λ u. 91 ∷ u) p.whole ∙ sym (posix_whole p.caret p.name x.1); is = p.is; means = ap (λ n. Adds (M.Set n)) p.means }) e

-- two `&` that are read
and_found : (fold first : Bool) (c : ℕ) (t : List ℕ) (f : Front) (rest : List ℕ) → (c == 38) && begins 38 t ≡ true → ◌≡◌ {A = Fronted} (Some (F.Meets, rest_of t)) (Some (f, rest)) → ReadsFront fold first (c ∷ t) f rest
and_found fold first c [] f rest is e = let parts = and_parts (c == 38) false is in absurd (both_ways _ refl parts.1)
and_found fold first c (d ∷ t) f rest is e =
    let parts = and_parts (c == 38) (d == 38) is in
    front_by fold first _ F.Meets t f rest (record { item = And; whole = ap (λ x. x ∷ d ∷ t) (eqb-true c 38 parts.0) ∙ ap (λ x. 38 ∷ x ∷ t) (eqb-true d 38 parts.1); is = tt; means = refl }) e

-- What is read at the front is written.
pub front_found : (fold first : Bool) (t : List ℕ) (f : Front) (rest : List ℕ) → front_at first t ≡ Some (f, rest) → ReadsFront fold first t f rest
unfolding front_at
front_found fold first [] f rest e = absurd cc
front_found fold first (c ∷ t) f rest e = elim (chosen (c == 92) _ _ _ e) [
  | inl h ↦
      let b = bind_ok (meant_at t) after_meant (f, rest) h.1 in
      rw (eqb-true c 92 h.0) (slash_found fold first t b.0.0 b.0.1 f rest (meant_found t b.0.0 b.0.1 b.1) b.2)
  | inr h ↦ elim (chosen (c == 91) _ _ _ h.1) [
    | inl g ↦ rw (eqb-true c 91 g.0) (open_found fold first t (posix_at t) refl f rest g.1)
    | inr g ↦ elim (chosen ((c == 38) && begins 38 t) _ _ _ g.1) [
      | inl d ↦ and_found fold first c t f rest d.0 d.1
      | inr d ↦ elim (chosen (is_raw first c) _ _ _ d.1) [
        | inl a ↦ after_found fold first (Raw c) t (a.0, d.0) f rest a.1
        | inr a ↦ absurd cc
      ]
    ]
  ]
]
