-- Which of several patterns is found first in a line, and what the searches cost.
use Rattle.std.specs.Prelude.{◌≡◌, ℕ, ◌+◌, List, [], ◌∷◌, map, Bool, if◌then◌else◌, Option, Some, None, option_map, nat_lt, slice_get, slice_index_or}
use Rattle.tm_onig_class.specs.declared.patterns.Pattern.{Pattern}
use Rattle.tm_onig_class.specs.Tree.{Tree, tree_of}
use Rattle.tm_onig_parse.specs.Parsed.{parsed}
use Rattle.tm_onig_search.specs.Outcomes.{Caps}
use Rattle.tm_onig_search.specs.Find.{first_match, search_cost}

-- the tree of each pattern, or none where a text is no pattern
abbrev pub trees_of : List (Option Pattern) → List (Option Tree)
trees_of patterns = map (option_map tree_of) patterns

-- the tree of a pattern's text; none where there is no text, or where it is no pattern
abbrev pub parsed_if : Option (List ℕ) → Option Tree
parsed_if None = None
parsed_if (Some text) = parsed text

-- the pattern of a number; a number beyond the list has none
abbrev pub pattern_at : List (Option Tree) → ℕ → Option Tree
pattern_at patterns number = slice_index_or patterns number None

-- the patterns of these numbers, in their order
abbrev pub patterns_at : List (Option Tree) → List ℕ → List (Option Tree)
patterns_at patterns numbers = map (pattern_at patterns) numbers

-- the pattern of this number is readable: it has a tree
abbrev pub IsReadable : List (Option Tree) → ℕ → Type 0
IsReadable patterns number = (tree : Tree) × (slice_get patterns number ≡ Some (Some tree))

-- where the whole match starts
abbrev pub start_of : Caps → ℕ
start_of [] = 0
start_of (None ∷ groups) = 0
start_of (Some span ∷ groups) = span.0

-- of two matches, each with the number of its pattern, the one that starts earlier, the first on a tie
abbrev pub earlier : Option (ℕ × Caps) → Option (ℕ × Caps) → Option (ℕ × Caps)
earlier None b = b
earlier (Some a) None = Some a
earlier (Some a) (Some b) = if nat_lt (start_of b.1) (start_of a.1) then Some b else Some a

-- a line that is searched from a position on, and whether `\A` and `\G` may match
module _ (line : List ℕ) (from : ℕ) (allow_a allow_g : Bool) where
  -- the first match of a pattern; what is unreadable matches nowhere
  abbrev pub found : Option Tree → Option Caps
  found None = None
  found (Some tree) = first_match tree line from allow_a allow_g

  -- the steps of that search
  abbrev pub found_cost : Option Tree → ℕ
  found_cost None = 0
  found_cost (Some tree) = search_cost tree line from allow_a allow_g

  -- the earliest match of patterns that are numbered from this number on
  abbrev pub winner_from : ℕ → List (Option Tree) → Option (ℕ × Caps)
  winner_from number [] = None
  winner_from number (p ∷ ps) = earlier (option_map (λ caps. (number, caps)) (found p)) (winner_from (number + 1) ps)

  -- of a list of patterns the one that is found earliest, the first in the list on a tie: its number, which is
  -- its place in the list, and the groups of its match
  abbrev pub earliest_winner : List (Option Tree) → Option (ℕ × Caps)
  earliest_winner patterns = winner_from 0 patterns

  -- the steps of the searches of all patterns
  abbrev pub scan_cost : List (Option Tree) → ℕ
  scan_cost [] = 0
  scan_cost (p ∷ ps) = found_cost p + scan_cost ps
