-- Splitting a text into lines, character by character.
use Rattle.std.specs.Prelude.{◌≡◌, ℕ, Bool, List, [], ◌∷◌, ◌++◌}
use Rattle.tm_machine.specs.Changes.{lines_after}

-- characters before the first of the lines
abbrev pub onto_first : List ℕ → List (List ℕ) → List (List ℕ)
onto_first front [] = front ∷ []
onto_first front (line ∷ lines) = (front ++ line) ∷ lines

-- lines that are ended, the characters of the line that is open, and whether the last character was `\r`
pub record Split : Type 0 where
  pub lines : List (List ℕ)
  pub current : List ℕ
  pub returned : Bool

-- the lines that there will be where this text follows
abbrev pub lines_with : Split → List ℕ → List (List ℕ)
lines_with s text = s.lines ++ onto_first s.current (lines_after s.returned text)

-- behind a text: whatever follows, the lines will be those of the text and what follows
abbrev pub Takes : Split → List ℕ → Split → Type 0
Takes old text new = (rest : List ℕ) → lines_with new rest ≡ lines_with old (text ++ rest)
