-- The least and the greatest number of characters that a match takes; there is no greatest where any
-- number may be. That a match takes no fewer and no more is a law.
use Rattle.std.specs.Prelude.{ℕ, zero, suc, ◌+◌, ◌*◌, ◌≤◌, min, max, Option, Some, None}
use Rattle.tm_onig_class.specs.Tree.{Tree, Empty, Char, Any, InSet, Cat, Alt, Group, Atomic, Repeat, Look, Back, Holds, Trees, NoTrees, More}

-- A character or a set takes one, a place or a look none, a row the sum, alternatives the least of
-- theirs, and a back reference may take none.
unfoldable mutual
  pub least_width : Tree → ℕ
  least_width Empty = 0
  least_width (Char c fold) = 1
  least_width (Any newline) = 1
  least_width (InSet set fold) = 1
  least_width (Cat parts) = widths_sum parts
  least_width (Alt parts) = widths_least parts
  least_width (Group number body) = least_width body
  least_width (Atomic body) = least_width body
  least_width (Repeat body least greatest greedy) = least * least_width body
  least_width (Look body ahead negative) = 0
  least_width (Back groups fold) = 0
  least_width (Holds place) = 0

  pub widths_sum : Trees → ℕ
  widths_sum NoTrees = 0
  widths_sum (More part parts) = least_width part + widths_sum parts

  -- of no alternatives 0, though no pattern has none
  pub widths_least : Trees → ℕ
  widths_least NoTrees = 0
  widths_least (More part NoTrees) = least_width part
  widths_least (More part (More other parts)) = min (least_width part) (widths_least (More other parts))

-- any number, where one of the two is any number
abbrev pub both_widths : (ℕ → ℕ → ℕ) → Option ℕ → Option ℕ → Option ℕ
both_widths join (Some a) (Some b) = Some (join a b)
both_widths join (Some a) None = None
both_widths join None o = None

-- So many rounds of a width: none where either is 0, also where the other is any number.
abbrev pub width_times : Option ℕ → Option ℕ → Option ℕ
width_times (Some n) (Some w) = Some (n * w)
width_times (Some zero) None = Some 0
width_times (Some (suc n)) None = None
width_times None (Some zero) = Some 0
width_times None (Some (suc w)) = None
width_times None None = None

-- A character or a set takes one, a place or a look none, a row the sum, alternatives the greatest
-- of theirs, a loop so many as all its rounds. A back reference may take any number.
unfoldable mutual
  pub greatest_width : Tree → Option ℕ
  greatest_width Empty = Some 0
  greatest_width (Char c fold) = Some 1
  greatest_width (Any newline) = Some 1
  greatest_width (InSet set fold) = Some 1
  greatest_width (Cat parts) = greatest_sum parts
  greatest_width (Alt parts) = greatest_of parts
  greatest_width (Group number body) = greatest_width body
  greatest_width (Atomic body) = greatest_width body
  greatest_width (Repeat body least greatest greedy) = width_times greatest (greatest_width body)
  greatest_width (Look body ahead negative) = Some 0
  greatest_width (Back groups fold) = None
  greatest_width (Holds place) = Some 0

  pub greatest_sum : Trees → Option ℕ
  greatest_sum NoTrees = Some 0
  greatest_sum (More part parts) = both_widths (λ a b. a + b) (greatest_width part) (greatest_sum parts)

  pub greatest_of : Trees → Option ℕ
  greatest_of NoTrees = Some 0
  greatest_of (More part parts) = both_widths max (greatest_width part) (greatest_of parts)

-- n is at most the limit, if there is one
abbrev pub IsAtMost : Option ℕ → ℕ → Type 0
IsAtMost None n = Unit {0}
IsAtMost (Some limit) n = n ≤ limit

-- A match of the tree may take n characters.
pub record HasWidth (t : Tree) (n : ℕ) : Type 0 where
  pub at_least : least_width t ≤ n
  pub at_most : IsAtMost (greatest_width t) n
