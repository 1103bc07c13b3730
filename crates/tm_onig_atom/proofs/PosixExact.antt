-- Names between `[:` and `:]` are read exactly as they are spelled.
use Rattle.std.proofs.Common.{◌≡◌, ℕ, Bool, true, false, List, [], ◌∷◌, ◌++◌, Option, Some, None, refl, sym, ap, ◌∙◌, inl, inr, append_assoc}
use Rattle.std.specs.Prelude.{◌==◌}
use Rattle.std.specs.List.{list_any}
use Rattle.std.proofs.lemmas.Bool.{cases_Bool, eqb-true}
use Rattle.tm_onig_class.specs.declared.listed.Listed.{Listed}
use Rattle.tm_onig_atom.specs.declared.meanings.Named.{Named}
use Rattle.tm_onig_atom.specs.Escapes.{begins, of_listed}
use Rattle.tm_onig_atom.specs.inner.Reading.{◌>>=◌, before}
use Rattle.tm_onig_atom.specs.Classes.{class_name, posix_text, IsPosix, NoPosix}
use Rattle.tm_onig_atom.specs.inner.ClassReading.{posix_end, posix_name, posix_caret, posix_at}
use Rattle.tm_onig_atom.proofs.Texts.{chosen, bind_ok, map_ok, before_again, before_found}

-- what is read of a name
abbrev pub NameRead : Type 0
NameRead = Option (Named × List ℕ)

-- a name that is written is read
name_again : (negated : Bool) (name rest : List ℕ) (listed : Listed) → list_any (λ c. c == 58) name ≡ false → class_name name ≡ Some listed →
    ◌≡◌ {A = NameRead} (posix_name negated (name ++ 58 ∷ 93 ∷ rest)) (Some (of_listed listed negated, rest))
name_again negated name rest listed none is =
    ap (λ (o : Option (List ℕ × List ℕ)). o >>= posix_end negated) (before_again 58 name (93 ∷ rest) none) ∙ (rw is refl)

-- a name without `^` in front
no_caret : (name rest : List ℕ) → begins 94 name ≡ false → posix_caret (name ++ 58 ∷ rest) ≡ posix_name false (name ++ 58 ∷ rest)
no_caret [] rest e = refl
no_caret (c ∷ name) rest e = rw e refl

-- the text behind `[`
abbrev pub behind_open : Bool → List ℕ → List ℕ → List ℕ
behind_open true name rest = 58 ∷ 94 ∷ (name ++ 58 ∷ 93 ∷ rest)
behind_open false name rest = 58 ∷ (name ++ 58 ∷ 93 ∷ rest)

-- the whole text
pub posix_whole : (caret : Bool) (name rest : List ℕ) → posix_text caret name ++ rest ≡ 91 ∷ behind_open caret name rest
posix_whole true name rest = ap (λ u. 91 ∷ 58 ∷ 94 ∷ u) (append_assoc name (58 ∷ 93 ∷ []) rest)
posix_whole false name rest = ap (λ u. 91 ∷ 58 ∷ u) (append_assoc name (58 ∷ 93 ∷ []) rest)

-- A name between colons that is written is read.
pub posix_again : (caret : Bool) (name : List ℕ) (listed : Listed) (rest : List ℕ) → IsPosix caret name listed → ◌≡◌ {A = NameRead} (posix_at (behind_open caret name rest)) (Some (of_listed listed caret, rest))
unfolding posix_at
posix_again true name listed rest is = name_again true name rest listed is.0 is.2
posix_again false name listed rest is = no_caret name (93 ∷ rest) (is.1 refl) ∙ name_again false name rest listed is.0 is.2

-- What was read is spelled so.
pub record ReadsPosix (t : List ℕ) (named : Named) (rest : List ℕ) : Type 0 where
  pub caret : Bool
  pub name : List ℕ
  pub listed : Listed
  pub whole : t ≡ behind_open caret name rest
  pub is : IsPosix caret name listed
  pub means : named ≡ of_listed listed caret

-- The name that was read.
record ReadsName (negated : Bool) (t : List ℕ) (named : Named) (rest : List ℕ) : Type 0 where
  name : List ℕ
  listed : Listed
  whole : t ≡ name ++ 58 ∷ 93 ∷ rest
  none : list_any (λ c. c == 58) name ≡ false
  is : class_name name ≡ Some listed
  means : named ≡ of_listed listed negated

-- the end of a name
end_found : (negated : Bool) (name u : List ℕ) (named : Named) (rest : List ℕ) → posix_end negated (name, u) ≡ Some (named, rest) →
    (u ≡ 93 ∷ rest) × ((listed : Listed) × (class_name name ≡ Some listed) × (named ≡ of_listed listed negated))
end_found negated name [] named rest e = absurd cc
end_found negated name (c ∷ u) named rest e = elim (chosen (c == 93) _ _ _ e) [
  | inl h ↦
      let m = map_ok (λ (listed : Listed). (of_listed listed negated, u)) (class_name name) (named, rest) h.1 in
      (ap (λ d. d ∷ u) (eqb-true c 93 h.0) ∙ ap (λ (p : Named × List ℕ). 93 ∷ p.1) m.2, (m.0, m.1, sym (ap (λ (p : Named × List ℕ). p.0) m.2)))
  | inr h ↦ absurd cc
]

-- a name that is read
name_found : (negated : Bool) (t : List ℕ) (named : Named) (rest : List ℕ) → posix_name negated t ≡ Some (named, rest) → ReadsName negated t named rest
name_found negated t named rest e =
    let b = bind_ok (before 58 t) (posix_end negated) (named, rest) e in
    let f = before_found 58 t b.0.0 b.0.1 b.1 in
    let g = end_found negated b.0.0 b.0.1 named rest b.2 in
    record { name = b.0.0; listed = g.1.0; whole = f.whole ∙ ap (λ u. b.0.0 ++ 58 ∷ u) g.0; none = f.none; is = g.1.1; means = g.1.2 }

-- the front of a name
front_of : (t name rest : List ℕ) → begins 94 t ≡ false → t ≡ name ++ 58 ∷ rest → begins 94 name ≡ false
front_of t [] rest bare e = refl
front_of t (c ∷ name) rest bare e = sym (ap (begins 94) e) ∙ bare

-- a name without `^` that is read
bare_found : (t : List ℕ) (named : Named) (rest : List ℕ) → begins 94 t ≡ false → posix_name false t ≡ Some (named, rest) → ReadsPosix (58 ∷ t) named rest
bare_found t named rest bare e =
    let f = name_found false t named rest e in
    record { caret = false; name = f.name; listed = f.listed; whole = ap (λ u. 58 ∷ u) f.whole; is = (f.none, (λ h. front_of t f.name (93 ∷ rest) bare f.whole), f.is); means = f.means }

-- a name behind `^` that is read
negated_found : (t : List ℕ) (named : Named) (rest : List ℕ) → posix_name true t ≡ Some (named, rest) → ReadsPosix (58 ∷ 94 ∷ t) named rest
negated_found t named rest e =
    let f = name_found true t named rest e in
    record { caret = true; name = f.name; listed = f.listed; whole = ap (λ u. 58 ∷ 94 ∷ u) f.whole; is = (f.none, (λ h. absurd cc), f.is); means = f.means }

-- a name behind its colon that is read
caret_found : (t : List ℕ) (named : Named) (rest : List ℕ) → posix_caret t ≡ Some (named, rest) → ReadsPosix (58 ∷ t) named rest
caret_found [] named rest e = bare_found [] named rest refl e
caret_found (c ∷ t) named rest e = elim (cases_Bool (c == 94)) [
  | inl h ↦ let at = eqb-true c 94 h in rw at (negated_found t named rest (rw h at e))
  | inr h ↦ bare_found (c ∷ t) named rest h (rw h at e)
]

-- A name between colons that is read is written.
pub posix_found : (t : List ℕ) (named : Named) (rest : List ℕ) → posix_at t ≡ Some (named, rest) → ReadsPosix t named rest
unfolding posix_at
posix_found [] named rest e = absurd cc
posix_found (c ∷ t) named rest e = elim (cases_Bool (c == 58)) [
  | inl h ↦ let at = eqb-true c 58 h in rw at (caret_found t named rest (rw h at e))
  | inr h ↦ let none : ◌≡◌ {A = NameRead} None (Some (named, rest)) = (rw h at e) in absurd cc
]

-- the text behind `[`, from the whole
tails_same : (t u : List ℕ) → 91 ∷ t ≡ 91 ∷ u → t ≡ u
tails_same t u e = cc

-- where no name is written none is read
pub no_posix : (t : List ℕ) (o : NameRead) → posix_at t ≡ o → NoPosix (91 ∷ t) → o ≡ None
no_posix t None is none = refl
no_posix t (Some x) is none =
    let f = posix_found t x.0 x.1 is in
    absurd (none f.caret f.name f.listed x.1 f.is (ap (λ u. 91 ∷ u) f.whole ∙ sym (posix_whole f.caret f.name x.1)))

-- where none is read none is written
pub lacks_posix : (t : List ℕ) → posix_at t ≡ None → NoPosix (91 ∷ t)
lacks_posix t lacks caret name listed more is e =
    let at = tails_same t (behind_open caret name more) (e ∙ posix_whole caret name more) in
    let some = posix_again caret name listed more is in
    let found = ap posix_at at in
    absurd cc
