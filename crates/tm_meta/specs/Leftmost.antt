-- What the search for a deciding word means, without its order of trying.
use Rattle.std.specs.Prelude.{◌≡◌, ℕ, ◌<◌, List, length, Some, None, MatchOption}
use Rattle.tm_meta.specs.Metadata.{type_at, decided_type}

-- the word that decides a scope's token type is the leftmost; with none, no word stands alone in it
abbrev pub IsLeftmost : List ℕ → Type 0
IsLeftmost scope = MatchOption (decided_type scope)
    ((place : ℕ) → place < length scope → type_at scope place ≡ None)
    (λ type. (place : ℕ) × (place < length scope) × (type_at scope place ≡ Some type)
    × ((before : ℕ) → before < place → type_at scope before ≡ None))
