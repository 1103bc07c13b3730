-- The text file, in the form that is built: tabs, line breaks and printed characters of ASCII. Its bytes are its
-- characters.
use Rattle.std.specs.Prelude.{ℕ, List, length, if◌then◌else◌, nat_eq, nat_le, Bool, ◌&&◌, ◌||◌, Option, Some, None}
use Rattle.std.specs.List.{list_all}
use Rattle.tm_forms.specs.Utf8.{without_mark}

-- a tab, a line break, or a printed character of ASCII
abbrev pub is_text_character : ℕ → Bool
is_text_character c = nat_eq c 9 || nat_eq c 10 || (nat_le 32 c && nat_le c 126)

-- how many bytes a text or a script may have
abbrev pub greatest_length : ℕ
greatest_length = 1000000

-- the characters of the text
abbrev pub text_in : List ℕ → Option (List ℕ)
text_in bytes = if nat_le (length bytes) greatest_length && list_all is_text_character (without_mark bytes) then Some (without_mark bytes) else None
