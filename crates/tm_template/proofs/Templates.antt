-- Templates that refer to no group.
use Rattle.std.proofs.Common.{Some, Option, ◌≡◌, ℕ, true, false, ◌||◌, List, [], ◌∷◌, None, refl, sym, ap, ◌∙◌}
use Rattle.std.specs.Prelude.{flat_map, option_map}
use Rattle.std.specs.List.{list_any}
use Rattle.std.specs.Option.{is_some}
use Rattle.tm_onig_search.specs.Outcomes.{Caps}
use Rattle.tm_template.specs.References.{pieces, Reference, name_form, name_reference, pieces_behind}
use Rattle.tm_template.specs.Names.{filled, piece_name, has_name_reference, names_of, words_of}
use Rattle.tm_template.specs.Laws.{is_reference}
use Rattle.tm_template.proofs.Alone.{neither}
use Rattle.tm_template.proofs.Forms.{name_is_form}
use Rattle.tm_template.proofs.Pieces.{pieces-front, pieces_plain}

-- where there is nothing, it is none
none_is : (o : Option Reference) → is_some o ≡ false → o ≡ None
none_is None e = refl
none_is (Some r) e = absurd cc

-- without a reference every piece is its character
filled_alone : (text line : List ℕ) (caps : Caps) → has_name_reference text ≡ false → filled text line caps ≡ text
unfolding pieces_behind
filled_alone [] line caps none = refl
filled_alone (c ∷ t) line caps none =
    let both = neither (is_some (name_reference (c ∷ t))) (has_name_reference t) none in
    ap (λ ps. flat_map (piece_name line caps) ps) (pieces_plain name_form name_is_form c t (none_is (name_reference (c ∷ t)) both.0)) ∙ ap (λ u. c ∷ u) (filled_alone t line caps both.1)

pub names_alone : (template line : List ℕ) (caps : Caps) → has_name_reference template ≡ false → names_of template line caps ≡ words_of template
names_alone template line caps none = ap (λ t. words_of t) (filled_alone template line caps none)

names_front : (c : ℕ) (t : List ℕ) (o : Option Reference) → name_reference (c ∷ t) ≡ o → has_name_reference t ≡ list_any is_reference (pieces name_form t) →
    has_name_reference (c ∷ t) ≡ list_any is_reference (pieces name_form (c ∷ t))
names_front c t None e rest =
    ap (λ p. is_some p || has_name_reference t) e ∙ rest
    ∙ ap (λ ps. list_any is_reference ps) (sym (pieces_plain name_form name_is_form c t e))
names_front c t (Some r) e rest =
    ap (λ p. is_some p || has_name_reference t) e
    ∙ sym (ap (λ ps. list_any is_reference ps) (pieces-front name_form name_is_form c t) ∙ rw e refl)

-- a reference at the front is one of the template
found_front : (t : List ℕ) → is_some (name_reference t) ≡ true → true ≡ has_name_reference t
unfolding name_reference
found_front [] some = absurd cc
found_front (c ∷ t) some = sym (ap (λ b. b || has_name_reference t) some)

some_mapped : {A : Type 0} (f : A → Reference) (o : Option A) → is_some (option_map f o) ≡ is_some o
some_mapped f None = refl
some_mapped f (Some x) = refl

-- the same of what stands at the front, as it was read
pub read_front : {A : Type 0} (t : List ℕ) (f : A → Reference) (o : Option A) → option_map f o ≡ name_reference t → is_some o ≡ true → true ≡ has_name_reference t
read_front t f o read some = found_front t (ap is_some (sym read) ∙ some_mapped f o ∙ some)

pub names_refer : (text : List ℕ) → has_name_reference text ≡ list_any is_reference (pieces name_form text)
unfolding pieces_behind
names_refer [] = refl
names_refer (c ∷ t) = names_front c t (name_reference (c ∷ t)) refl (names_refer t)
