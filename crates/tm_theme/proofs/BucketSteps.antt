-- One step of the loops over buckets.
use Rattle.std.proofs.Common.{◌≡◌, ℕ, zero, suc, ◌+◌, ◌-◌, ◌<◌, ◌≤◌, Bool, true, false, List, [], ◌∷◌, ◌++◌, length, take, drop, get_or, Option, None, refl, ap, sym, ◌∙◌, subst, arith, if◌then◌else◌}
use Rattle.std.specs.Prelude.{insert}
use Rattle.std.specs.Option.{option_or}
use Rattle.std.proofs.lemmas.Option.{slice_get_past}
use Rattle.tm_meta.specs.declared.metadata.TokenType.{TokenType}
use Rattle.tm_meta.specs.Metadata.{type_at, leftmost_type, decided_type}
use Rattle.tm_meta.proofs.Letters.{type-behind}
use Rattle.tm_theme.specs.declared.style.Style.{Style}
use Rattle.tm_theme.specs.declared.style.Alternative.{Alternative}
use Rattle.tm_theme.specs.Style.{is_weaker}
use Rattle.tm_theme.specs.Buckets.{unset, alternative_at, with_piece, with_pieces, found_style, with_place}

pub pieces-step : (all : List Alternative) (buckets above : List (List ℕ)) (scope : List ℕ) (style : Style) (end : ℕ) → 0 < end →
    with_pieces all buckets above scope style end ≡ with_pieces all buckets above scope (with_piece all buckets above scope style (end - 1)) (end - 1)
pieces-step all buckets above scope style zero lt = absurd (omega arith)
pieces-step all buckets above scope style (suc n) lt =
    let same : n ≡ suc n - 1 = omega arith in
    subst (λ (m : ℕ). with_pieces all buckets above scope style (suc n) ≡ with_pieces all buckets above scope (with_piece all buckets above scope style m) m) same refl

-- a pass over a scope from its end
pub pieces-first : (all : List Alternative) (buckets above : List (List ℕ)) (scope : List ℕ) →
    with_pieces all buckets above scope (with_piece all buckets above scope unset (length scope)) (length scope) ≡ found_style all buckets above scope
pieces-first all buckets above scope =
    let one : length scope + 1 ≡ suc (length scope) = omega arith in
    sym (ap (with_pieces all buckets above scope unset) one)

pub types-step : (scope : List ℕ) (place : ℕ) (before now : Option TokenType) → 0 < place → place ≤ length scope → before ≡ leftmost_type scope (place + 1) (length scope - place) →
    now ≡ option_or (type_at scope ((place - 1) + 1)) before → now ≡ leftmost_type scope ((place - 1) + 1) (length scope - (place - 1))
types-step scope place before now lt le behind is =
    let same : (place - 1) + 1 ≡ place = omega (arith, lt) in
    let some : length scope - (place - 1) ≡ suc (length scope - place) = omega (arith, lt, le) in
    is ∙ ap (λ p. option_or (type_at scope p) before) same ∙ ap (option_or (type_at scope place)) behind
    ∙ sym (ap (leftmost_type scope ((place - 1) + 1)) some ∙ ap (λ p. leftmost_type scope p (suc (length scope - place))) same)

-- the place behind the scope decides nothing
last-none : (scope : List ℕ) (n place : ℕ) → place + n ≡ length scope → leftmost_type scope place (suc n) ≡ leftmost_type scope place n
last-none scope zero place e = ap (λ t. option_or t None) (type-behind scope place (slice_get_past scope place (omega (arith, e))))
last-none scope (suc n) place e = ap (option_or (type_at scope place)) (last-none scope n (place + 1) (omega (arith, e)))

pub types-first : (scope : List ℕ) (place : ℕ) (before now : Option TokenType) → place ≡ 0 → before ≡ leftmost_type scope (place + 1) (length scope - place) →
    now ≡ option_or (type_at scope 0) before → now ≡ decided_type scope
types-first scope zero before now none behind is =
    let whole : length scope - 0 ≡ length scope = omega arith in
    is ∙ ap (option_or (type_at scope 0)) (behind ∙ ap (leftmost_type scope (0 + 1)) whole) ∙ last-none scope (length scope) 0 (omega arith)
types-first scope (suc place) before now none behind is = absurd (omega (arith, none))
