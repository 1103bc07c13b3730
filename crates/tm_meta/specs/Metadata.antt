-- The metadata of a scope list: the 32-bit word of vscode-textmate.
use Rattle.std.specs.Prelude.{ℕ, zero, suc, ◌+◌, ◌-◌, ◌*◌, ◌^◌, ◌==◌, List, [], ◌∷◌, length, drop, Bool, false, not, ◌&&◌, ◌||◌, if◌then◌else◌, Option, Some, None, unwrap_or, slice_get, nat_eq, codes}
use Rattle.std.specs.List.{starts_with}
use Rattle.std.specs.Option.{option_or}
use Rattle.std.specs.Char.{is_ascii_alphanumeric}
use Rattle.tm_meta.specs.declared.metadata.TokenType.{TokenType}
use Rattle.tm_meta.specs.declared.metadata.TokenType.TheVariants.{Other, Comment, Text, Regex}

-- an ASCII letter, digit or `_`
abbrev pub is_word_character : ℕ → Bool
is_word_character c = is_ascii_alphanumeric c || (c == 95)

abbrev pub is_some_word_character : Option ℕ → Bool
is_some_word_character None = false
is_some_word_character (Some c) = is_word_character c

-- a word character stands at a place of the scope
abbrev pub in_word : List ℕ → ℕ → Bool
in_word scope place = is_some_word_character (slice_get scope place)

-- the word stands at a place of the scope, and no word character is directly before or after it
abbrev pub stands_alone : List ℕ → List ℕ → ℕ → Bool
stands_alone word scope place =
    (starts_with nat_eq (drop place scope) word && not (not (place == 0) && in_word scope (place - 1)))
    && not (in_word scope (place + length word))

-- the token type of the word that stands alone at a place, if one of the four does
abbrev pub type_at : List ℕ → ℕ → Option TokenType
type_at scope place =
    if stands_alone (codes "comment") scope place then Some Comment
    else (if stands_alone (codes "string") scope place then Some Text
    else (if stands_alone (codes "regex") scope place then Some Regex
    else (if stands_alone (codes "meta.embedded") scope place then Some Other
    else None)))

-- the token type of the leftmost of n places from a place on at which one does
abbrev pub leftmost_type : List ℕ → ℕ → ℕ → Option TokenType
leftmost_type scope place zero = None
leftmost_type scope place (suc n) = option_or (type_at scope place) (leftmost_type scope (place + 1) n)

-- what a scope decides
abbrev pub decided_type : List ℕ → Option TokenType
decided_type scope = leftmost_type scope 0 (length scope)

-- scope by scope from the outermost: a scope that decides gives the type, any other keeps it
unfoldable pub type_from : TokenType → List (List ℕ) → TokenType
type_from type [] = type
type_from type (scope ∷ scopes) = type_from (unwrap_or (decided_type scope) type) scopes

abbrev pub type_bits : TokenType → ℕ
type_bits Other = 0
type_bits Comment = 1
type_bits Text = 2
type_bits Regex = 3

-- language 1 from bit 0 on, the token type from bit 8, balanced brackets at bit 10, font style 0 from
-- bit 11, foreground 1 from bit 15, background 2 from bit 24
abbrev pub packed : TokenType → ℕ
packed type = 1 + 2 ^ 8 * type_bits type + 2 ^ 10 * 1 + 2 ^ 11 * 0 + 2 ^ 15 * 1 + 2 ^ 24 * 2

abbrev pub metadata_of : List (List ℕ) → ℕ
metadata_of scopes = packed (type_from Other scopes)
