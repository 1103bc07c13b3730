-- Sets of characters as rising ranges, first and last character, of which no two touch.
use Rattle.std.specs.Prelude.{ℕ, zero, suc, ◌+◌, ◌<◌, ◌≤◌, Bool, true, ◌⊎◌, ◌||◌, ◌&&◌, ◌==◌, nat_lt, nat_le, List, [], ◌∷◌, if◌then◌else◌}
use Rattle.regex_class.specs.Ranges.{Range, in_ranges}
use Rattle.tm_onig_class.specs.Ranks.{char_of, chars_of}

-- the number is a character
abbrev pub IsChar : ℕ → Type 0
IsChar c = (c < 0xD800) ⊎ ((0xE000 ≤ c) × (c ≤ 0x10FFFF))

-- the same as a test
abbrev pub is_char : ℕ → Bool
is_char c = nat_lt c 0xD800 || (nat_le 0xE000 c && nat_le c 0x10FFFF)

-- the character lies in one of the ranges
abbrev pub has_char : List Range → ℕ → Bool
has_char = in_ranges

-- the character directly after
abbrev pub next_char : ℕ → ℕ
next_char c = if c == 0xD7FF then 0xE000 else c + 1

-- the range starts at the number or later, and both its ends are characters, in order
abbrev pub is_range_from : ℕ → Range → Bool
is_range_from n r = (is_char r.0 && is_char r.1) && (nat_le n r.0 && nat_le r.0 r.1)

-- the ranges rise, and no range begins directly after the one before or earlier
unfoldable pub ranges_rise : ℕ → List Range → Bool
ranges_rise n [] = true
ranges_rise n (r ∷ rs) = is_range_from n r && ranges_rise (next_char r.1 + 1) rs

-- the number before ranges that begin after it
abbrev pub add_front : ℕ → List Range → List Range
add_front n [] = (n, n) ∷ []
add_front n (r ∷ rs) = if r.0 == n + 1 then (n, r.1) ∷ rs else (n, n) ∷ r ∷ rs

-- the numbers below n that pass, before the ranges
unfoldable pub runs_below : ℕ → (ℕ → Bool) → List Range → List Range
runs_below zero test later = later
runs_below (suc n) test later = runs_below n test (if test n then add_front n later else later)

-- the characters that pass, as rising ranges of which no two touch; a number stands for the
-- character of that rank, so that the last one before the surrogates and the first one after touch
abbrev pub ranges_of : (ℕ → Bool) → List Range
ranges_of test = chars_of (runs_below 0x10F800 (λ r. test (char_of r)) [])
