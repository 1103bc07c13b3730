-- How many characters a text has.
use Rattle.std.specs.Prelude.{ℕ, ◌+◌, ◌-◌, ◌≤◌, List, [], ◌∷◌, length}

-- the characters of lines, and a line break behind each
abbrev pub size_of_lines : List (List ℕ) → ℕ
size_of_lines [] = 0
size_of_lines (line ∷ lines) = length line + 1 + size_of_lines lines

-- the characters of a text, each line break counted as one: behind the last line there is none
abbrev pub characters_of : List (List ℕ) → ℕ
characters_of lines = size_of_lines lines - 1

-- a text has at most this many
abbrev pub Fits : List (List ℕ) → Type 0
Fits lines = characters_of lines ≤ 16777216
