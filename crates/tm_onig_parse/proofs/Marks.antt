-- What stands behind a quantifier's amount is read exactly as it is spelled.
use Rattle.std.proofs.Common.{◌≡◌, ℕ, Bool, true, false, cond, List, [], ◌∷◌, ◌++◌, Option, Some, refl, subst, inl, inr}
use Rattle.std.specs.Prelude.{◌==◌, ◌&&◌}
use Rattle.std.proofs.lemmas.Bool.{eqb-true}
use Rattle.std.proofs.Math.Bool.{and-false}
use Rattle.tm_onig_parse.specs.declared.quantifiers.Manner.{Manner}
use Rattle.tm_onig_parse.specs.declared.quantifiers.Manner.TheVariants.{Greedy, Possessive}
use Rattle.tm_onig_parse.specs.Intervals.{Bounds, Exactly, Between}
use Rattle.tm_onig_parse.specs.Things.{Braces, Mark, Bare, Question, Plus, mark_text, EndsMark, with_question, marked}
use Rattle.tm_onig_parse.specs.inner.Reading.{Sym, Repeats, Found, times_at, lazily_exact}
use Rattle.tm_onig_atom.proofs.Texts.{chosen}
use Rattle.tm_onig_parse.proofs.BoundsValues.{is_exact}

-- a mark that is written is read
pub mark_again : (least : ℕ) (greatest : Option ℕ) (question : Manner) (plus : Bool) (mark : Mark) (rest : List ℕ) → EndsMark plus mark rest →
    times_at least greatest question plus (mark_text mark ++ rest) ≡ Some (Repeats least greatest (marked question mark), rest)
unfolding times_at
mark_again least greatest question plus Bare [] ends = refl
mark_again least greatest question plus Bare (c ∷ t) ends = rw (ends.0, ends.1) refl
mark_again least greatest question plus Question rest ends = refl
mark_again least greatest question plus Plus rest ends = rw ends refl

-- The mark that was read.
pub record Marked (least : ℕ) (greatest : Option ℕ) (question : Manner) (plus : Bool) (t : List ℕ) (y : Sym) (rest : List ℕ) : Type 0 where
  pub mark : Mark
  pub whole : t ≡ mark_text mark ++ rest
  pub ends : EndsMark plus mark rest
  pub means : y ≡ Repeats least greatest (marked question mark)

-- the same pair in both
mark_by : (least : ℕ) (greatest : Option ℕ) (question : Manner) (plus : Bool) (mark : Mark) (r : List ℕ) (y : Sym) (rest : List ℕ) → EndsMark plus mark r →
    ◌≡◌ {A = Found} (Some (Repeats least greatest (marked question mark), r)) (Some (y, rest)) → Marked least greatest question plus (mark_text mark ++ r) y rest
mark_by least greatest question plus mark r y rest ends e =
    let p : ◌≡◌ {A = Sym × List ℕ} (Repeats least greatest (marked question mark), r) (y, rest) = cc in
    subst (λ (p : Sym × List ℕ). Marked least greatest question plus (mark_text mark ++ r) p.0 p.1) p (record { mark = mark; whole = refl; ends = ends; means = refl })

-- no `?` stands there
no_question : (least : ℕ) (greatest : Option ℕ) (question : Manner) (plus : Bool) (c : ℕ) (t : List ℕ) (y : Sym) (rest : List ℕ) → (c == 63) ≡ false →
    cond {A = Found} (plus && (c == 43)) (Some (Repeats least greatest Possessive, t)) (Some (Repeats least greatest Greedy, c ∷ t)) ≡ Some (y, rest) →
    Marked least greatest question plus (c ∷ t) y rest
no_question least greatest question false c t y rest other e = mark_by least greatest question false Bare (c ∷ t) y rest (other, refl) e
no_question least greatest question true c t y rest other e = elim (chosen (c == 43) _ _ _ e) [
  | inl g ↦ rw (eqb-true c 43 g.0) (mark_by least greatest question true Plus t y rest refl g.1)
  | inr g ↦ mark_by least greatest question true Bare (c ∷ t) y rest (other, g.0) g.1
]

-- a mark that is read is written
pub mark_found : (least : ℕ) (greatest : Option ℕ) (question : Manner) (plus : Bool) (t : List ℕ) (y : Sym) (rest : List ℕ) →
    times_at least greatest question plus t ≡ Some (y, rest) → Marked least greatest question plus t y rest
unfolding times_at
mark_found least greatest question plus [] y rest e = mark_by least greatest question plus Bare [] y rest (refl, and-false plus) e
mark_found least greatest question plus (c ∷ t) y rest e = elim (chosen (c == 63) _ _ _ e) [
  | inl h ↦ rw (eqb-true c 63 h.0) (mark_by least greatest question plus Question t y rest tt h.1)
  | inr h ↦ no_question least greatest question plus c t y rest h.0 h.1
]

-- what a `?` makes of bounds
pub question_same : (b : Bounds) → lazily_exact (is_exact b) ≡ with_question (Braces b)
question_same (Exactly n) = refl
question_same (Between n m) = refl
