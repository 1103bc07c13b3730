-- Colours, fonts and scopes as a theme's file writes them, in the bytes of UTF-8: all characters that count are ASCII.
use Rattle.std.specs.Prelude.{ℕ, zero, suc, ◌-◌, drop, slice_get, Option, Some, None, ◌+◌, ◌++◌, ◌==◌, ◌&&◌, ◌||◌, Bool, true, false, not, List, [], ◌∷◌, length, map, codes, if◌then◌else◌, nat_eq}
use Rattle.std.specs.List.{list_all, starts_with}
use Rattle.std.specs.Char.{is_ascii_alphanumeric, is_ascii_hexdigit, to_ascii_uppercase}

-- 3, 4, 6 or 8
abbrev pub is_digit_count : ℕ → Bool
is_digit_count n = nat_eq n 3 || nat_eq n 4 || nat_eq n 6 || nat_eq n 8

-- `#` and 3, 4, 6 or 8 hexadecimal digits
abbrev pub is_colour : List ℕ → Bool
is_colour [] = false
is_colour (c ∷ digits) = (c == 35) && is_digit_count (length digits) && list_all is_ascii_hexdigit digits

-- colours are compared in upper case
abbrev pub upper : List ℕ → List ℕ
upper text = map to_ascii_uppercase text

-- a space, or no character
abbrev pub is_space : Option ℕ → Bool
is_space None = true
is_space (Some c) = c == 32

abbrev pub is_space_at : List ℕ → ℕ → Bool
is_space_at text place = is_space (slice_get text place)

-- the word stands at a place of the text, with spaces or the text's ends around it
abbrev pub stands_at : List ℕ → List ℕ → ℕ → Bool
stands_at word text place = not (not (place == 0) && not (is_space_at text (place - 1))) && (starts_with nat_eq (drop place text) word && is_space_at text (place + length word))

abbrev pub stands_before : List ℕ → List ℕ → ℕ → Bool
stands_before word text zero = false
stands_before word text (suc place) = if stands_at word text place then true else stands_before word text place

-- a word of the text is this one
abbrev pub has_word : List ℕ → List ℕ → Bool
has_word word text = stands_before word text (length text)

abbrev pub bit : Bool → ℕ → ℕ
bit set value = if set then value else 0

-- the font of a text of words
abbrev pub font_of : List ℕ → ℕ
font_of text = bit (has_word (codes "italic") text) 1 + bit (has_word (codes "bold") text) 2 + bit (has_word (codes "underline") text) 4 + bit (has_word (codes "strikethrough") text) 8

-- spaces alone
abbrev pub is_blank : List ℕ → Bool
is_blank text = list_all (λ c. c == 32) text

-- a word before those of an alternative, the last first
abbrev pub with_word : List ℕ → List (List ℕ) → List (List ℕ)
with_word [] words = words
with_word (c ∷ word) words = (c ∷ word) ∷ words

-- a character of names: an ASCII letter or digit, `_`, `.`, `:` or `-`
abbrev pub is_name_character : ℕ → Bool
is_name_character c = is_ascii_alphanumeric c || (c == 95) || (c == 46) || (c == 58) || (c == 45)

-- an alternative, where it has words, and they have characters of names alone
abbrev pub alternative : List (List ℕ) → List (List (List ℕ))
alternative [] = []
alternative (word ∷ words) = if list_all (list_all is_name_character) (word ∷ words) then (word ∷ words) ∷ [] else []

-- the alternatives of a scope's text behind a word, words and alternatives that were read: a comma ends an alternative,
-- and a space a word
abbrev pub alternatives_from : List ℕ → List (List ℕ) → List (List (List ℕ)) → List ℕ → List (List (List ℕ))
alternatives_from word words done [] = done ++ alternative (with_word word words)
alternatives_from word words done (c ∷ text) =
    if c == 44 then alternatives_from [] [] (done ++ alternative (with_word word words)) text
    else (if c == 32 then alternatives_from [] (with_word word words) done text
    else alternatives_from (word ++ c ∷ []) words done text)
