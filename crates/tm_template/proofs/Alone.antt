-- Texts of ends that refer to no group.
use Rattle.std.proofs.Common.{Some, Option, ◌≢◌, subst, ◌≡◌, ℕ, Bool, true, false, ◌&&◌, ◌||◌, List, [], ◌∷◌, None, refl, sym, ap, ◌∙◌, inl, inr}
use Rattle.std.specs.Prelude.{◌==◌, flat_map}
use Rattle.std.specs.List.{list_any}
use Rattle.std.specs.Char.{is_ascii_digit}
use Rattle.std.proofs.lemmas.Bool.{cases_Bool, eqb-true, and_parts}
use Rattle.tm_onig_search.specs.Outcomes.{Caps}
use Rattle.tm_template.specs.declared.references.Manner.TheVariants.{AsCaptured}
use Rattle.tm_template.specs.References.{pieces, Reference, reference, end_form, end_reference, digits_of, referring, pieces_behind}
use Rattle.tm_template.specs.Ends.{begins_digit, has_reference, resolved, piece_end}
use Rattle.tm_template.specs.Laws.{AreDigits, is_reference}
use Rattle.tm_template.proofs.Digits.{digits_again}
use Rattle.tm_template.proofs.Forms.{end_is_form}
use Rattle.tm_template.proofs.Pieces.{pieces-front, pieces_plain}

-- of two tests neither holds
pub neither : (a b : Bool) → (a || b) ≡ false → (a ≡ false) × (b ≡ false)
neither false b e = (refl, e)
neither true b e = absurd cc

not_true : (b : Bool) → (b ≡ true → ⊥) → b ≡ false
not_true false none = refl
not_true true none = absurd (none refl)

not_false : (b : Bool) → (b ≡ false → ⊥) → b ≡ true
not_false true some = refl
not_false false some = absurd (some refl)

-- without digits there is no reference
no_digits : (t : List ℕ) → begins_digit t ≡ false → referring AsCaptured (digits_of t) ≡ None
no_digits t none = ap (λ ds. referring AsCaptured ds) (digits_again [] t refl none)

none_here : (c : ℕ) (t : List ℕ) → (c == 92 && begins_digit t) ≡ false → end_reference (c ∷ t) ≡ None
unfolding end_reference
none_here c t none = elim (cases_Bool (c == 92)) [
  | inl sign ↦ let none_there : begins_digit t ≡ false = sym (rw sign refl) ∙ none in rw sign (no_digits t none_there)
  | inr other ↦ rw other refl
]

pub stays_alone : (text line : List ℕ) (caps : Caps) → has_reference text ≡ false → resolved text line caps ≡ text
unfolding pieces_behind
stays_alone [] line caps none = refl
stays_alone (c ∷ t) line caps none =
    let both = neither (c == 92 && begins_digit t) (has_reference t) none in
    ap (λ ps. flat_map (piece_end line caps) ps) (pieces_plain end_form end_is_form c t (none_here c t both.0)) ∙ ap (λ u. c ∷ u) (stays_alone t line caps both.1)

-- a backslash before a digit is a reference
some_here : (c : ℕ) (t : List ℕ) → (c == 92 && begins_digit t) ≡ true → end_reference (c ∷ t) ≢ None
some_here c [] both e = absurd (let h = (and_parts (c == 92) false both).1 in cc)
some_here c (d ∷ t) both e =
    let parts = and_parts (c == 92) (is_ascii_digit d) both in
    let are : AreDigits (d ∷ []) = record { all = rw parts.1 refl; some = λ h. absurd cc } in
    end_is_form.one (reference (d ∷ []) AsCaptured) t are (subst (λ b. end_reference (b ∷ d ∷ t) ≡ None) (eqb-true c 92 parts.0) e)

refers_front : (c : ℕ) (t : List ℕ) (o : Option Reference) → end_reference (c ∷ t) ≡ o → has_reference t ≡ list_any is_reference (pieces end_form t) →
    has_reference (c ∷ t) ≡ list_any is_reference (pieces end_form (c ∷ t))
refers_front c t None e rest =
    ap (λ b. b || has_reference t) (not_true (c == 92 && begins_digit t) (λ both. some_here c t both e)) ∙ rest
    ∙ ap (λ ps. list_any is_reference ps) (sym (pieces_plain end_form end_is_form c t e))
refers_front c t (Some r) e rest =
    ap (λ b. b || has_reference t) (not_false (c == 92 && begins_digit t) (λ none. let h = none_here c t none in absurd cc))
    ∙ sym (ap (λ ps. list_any is_reference ps) (pieces-front end_form end_is_form c t) ∙ rw e refl)

pub refers : (text : List ℕ) → has_reference text ≡ list_any is_reference (pieces end_form text)
unfolding pieces_behind
refers [] = refl
refers (c ∷ t) = refers_front c t (end_reference (c ∷ t)) refl (refers t)
