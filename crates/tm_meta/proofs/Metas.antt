-- The metadata of a list, from its innermost scope outward.
use Rattle.std.proofs.Common.{◌≡◌, ℕ, suc, ◌+◌, ◌-◌, ◌<◌, ◌++◌, List, [], ◌∷◌, length, Some, None, Option, refl, ap, sym, ◌∙◌, arith}
use Rattle.std.specs.Prelude.{unwrap_or}
use Rattle.std.specs.Option.{option_or}
use Rattle.tm_meta.specs.declared.metadata.TokenType.{TokenType}
use Rattle.tm_meta.specs.declared.metadata.TokenType.TheVariants.{Other}
use Rattle.tm_meta.specs.Metadata.{type_at, leftmost_type, decided_type, type_from, packed, metadata_of}

-- one more place is looked at
leftmost-step : (scope : List ℕ) (place : ℕ) → place < length scope → leftmost_type scope place (length scope - place) ≡ option_or (type_at scope place) (leftmost_type scope (place + 1) (length scope - (place + 1)))
leftmost-step scope place lt =
    let some : length scope - place ≡ suc (length scope - (place + 1)) = omega arith in
    ap (leftmost_type scope place) some

pub leftmost-none : (scope : List ℕ) (place : ℕ) (o : Option TokenType) → place < length scope → o ≡ type_at scope place → o ≡ None →
    leftmost_type scope (place + 1) (length scope - (place + 1)) ≡ leftmost_type scope place (length scope - place)
leftmost-none scope place o lt is none =
    sym (leftmost-step scope place lt ∙ ap (λ t. option_or t (leftmost_type scope (place + 1) (length scope - (place + 1)))) (sym is ∙ none))

pub leftmost-some : (scope : List ℕ) (place : ℕ) (o : Option TokenType) (type : TokenType) → place < length scope → o ≡ type_at scope place → o ≡ Some type → Some type ≡ leftmost_type scope place (length scope - place)
leftmost-some scope place o type lt is some =
    sym (leftmost-step scope place lt ∙ ap (λ t. option_or t (leftmost_type scope (place + 1) (length scope - (place + 1)))) (sym is ∙ some))

pub leftmost-end : (scope : List ℕ) (place : ℕ) → length scope ≡ place → None ≡ leftmost_type scope place (length scope - place)
leftmost-end scope place e = let none : length scope - place ≡ 0 = omega arith in sym (ap (leftmost_type scope place) none)

type_from-push : (type : TokenType) (names : List (List ℕ)) (name : List ℕ) → type_from type (names ++ name ∷ []) ≡ unwrap_or (decided_type name) (type_from type names)
unfolding type_from
type_from-push type [] name = refl
type_from-push type (n ∷ ns) name = type_from-push (unwrap_or (decided_type n) type) ns name

pub metadata_of-decided : (path names : List (List ℕ)) (name : List ℕ) (o : Option TokenType) (type : TokenType) → path ≡ names ++ name ∷ [] → o ≡ decided_type name → o ≡ Some type → packed type ≡ metadata_of path
metadata_of-decided path names name o type e is some =
    sym (ap metadata_of e ∙ ap packed (type_from-push Other names name ∙ ap (λ d. unwrap_or d (type_from Other names)) (sym is ∙ some)))

pub metadata_of-passed : (path names : List (List ℕ)) (name : List ℕ) (o : Option TokenType) → path ≡ names ++ name ∷ [] → o ≡ decided_type name → o ≡ None → metadata_of names ≡ metadata_of path
metadata_of-passed path names name o e is none =
    sym (ap metadata_of e ∙ ap packed (type_from-push Other names name ∙ ap (λ d. unwrap_or d (type_from Other names)) (sym is ∙ none)))

pub metadata_of-nil : packed Other ≡ metadata_of []
unfolding type_from
metadata_of-nil = refl
