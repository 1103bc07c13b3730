-- What is searched, and where the characters and places of a pattern match in it.
use Rattle.std.specs.Prelude.{ℕ, ◌+◌, ◌-◌, Bool, true, false, ◌&&◌, ◌||◌, not, ◌==◌, nat_lt, List, [], ◌∷◌, length, Option, Some, None, slice_get, if◌then◌else◌}
use Rattle.regex_class.specs.Ranges.{Range}
use Rattle.ucd_case.specs.CaseFolding.{simple_fold}
use Rattle.tm_onig_class.specs.declared.listed.Listed.TheVariants as L
use Rattle.tm_onig_class.specs.declared.patterns.Position.{Position}
use Rattle.tm_onig_class.specs.declared.patterns.Position.TheVariants.{LineStart, LineEnd, TextStart, SearchStart, BeforeFinal, TextEnd, Word, NotWord}
use Rattle.tm_onig_class.specs.Members.{has_char}
use Rattle.tm_onig_class.specs.Folding.{has_alike}
use Rattle.tm_onig_class.specs.Listed.{in_listed}

-- A text, the position where the search for a match began, and whether `\A` and `\G` may match.
pub record Subject : Type 0 where
  pub line : List ℕ
  pub first : ℕ
  pub allow_a : Bool
  pub allow_g : Bool

abbrev pub subject : List ℕ → ℕ → Bool → Bool → Subject
subject line first allow_a allow_g = record { line = line; first = first; allow_a = allow_a; allow_g = allow_g }

-- there is a character, and it passes the test
abbrev pub passes : (ℕ → Bool) → Option ℕ → Bool
passes test None = false
passes test (Some c) = test c

-- two characters match, under folding or as they are
abbrev pub matches : Bool → ℕ → ℕ → Bool
matches fold c d = if fold then simple_fold d == simple_fold c else d == c

-- a character matches a set, under folding or as it is
abbrev pub in_set : List Range → Bool → ℕ → Bool
in_set set fold d = if fold then has_alike set d else has_char set d

-- any character, a line break only where the pattern says so
abbrev pub is_any : Bool → ℕ → Bool
is_any newline d = newline || not (d == 0x0A)

-- the texts are equal for as long as the first one goes on, character by character
abbrev pub begins : Bool → List ℕ → List ℕ → Bool
begins fold [] ds = true
begins fold (c ∷ cs) [] = false
begins fold (c ∷ cs) (d ∷ ds) = matches fold c d && begins fold cs ds

abbrev pub is_break : Option ℕ → Bool
is_break o = passes (λ c. c == 0x0A) o

abbrev pub is_word : Option ℕ → Bool
is_word o = passes (in_listed L.Word) o

module _ (line : List ℕ) where
  -- the character directly before a position
  abbrev pub before : ℕ → Option ℕ
  before pos = if pos == 0 then None else slice_get line (pos - 1)

  -- the character directly after it
  abbrev pub after : ℕ → Option ℕ
  after pos = slice_get line pos

  -- exactly one neighbour is a word's character
  abbrev pub at_word : ℕ → Bool
  at_word pos = if is_word (before pos) then not (is_word (after pos)) else is_word (after pos)

-- The place is at the position (after Oniguruma's anchors).
abbrev pub holds : Subject → Position → ℕ → Bool
holds s LineStart pos = (pos == 0) || (is_break (before s.line pos) && nat_lt pos (length s.line))
holds s LineEnd pos = (pos == length s.line) || is_break (after s.line pos)
holds s TextStart pos = s.allow_a && (pos == 0)
holds s SearchStart pos = s.allow_g && (pos == s.first)
holds s BeforeFinal pos = (pos == length s.line) || ((pos + 1 == length s.line) && is_break (after s.line pos))
holds s TextEnd pos = (pos == length s.line) && not (is_break (before s.line pos))
holds s Word pos = at_word s.line pos
holds s NotWord pos = not (at_word s.line pos)
