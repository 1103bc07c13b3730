-- Characters by rank: how many characters come before. The numbers 0xD800 to 0xDFFF are none.
use Rattle.std.specs.Prelude.{ℕ, ◌+◌, ◌-◌, ◌≤◌, nat_lt, min, List, map, if◌then◌else◌, IsTrue}
use Rattle.regex_class.specs.Ranges.{Range, in_ranges}

-- the rank of a character
abbrev pub rank_of : ℕ → ℕ
rank_of c = if nat_lt c 0xD800 then c else c - 0x800

-- the character with a rank
abbrev pub char_of : ℕ → ℕ
char_of r = if nat_lt r 0xD800 then r else r + 0x800

-- ranges of ranks as ranges of characters
abbrev pub chars_of : List Range → List Range
chars_of ranks = map (λ r. (char_of r.0, char_of r.1)) ranks

-- each member is the rank of a character
abbrev pub AreRanks : List Range → Type 0
AreRanks ranks = (r : ℕ) → IsTrue (in_ranges ranks r) → r ≤ 0x10F7FF

-- the rank of the first character from a code point on
abbrev pub rank_from : ℕ → ℕ
rank_from a = if nat_lt a 0xD800 then a else if nat_lt a 0xE000 then 0xD800 else a - 0x800

-- the rank of the last character up to a code point
abbrev pub rank_to : ℕ → ℕ
rank_to b = if nat_lt b 0xD800 then b else if nat_lt b 0xE000 then 0xD7FF else min (b - 0x800) 0x10F7FF
