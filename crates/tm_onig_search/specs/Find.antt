-- The least start at which a pattern matches.
use Rattle.std.specs.Prelude.{◌≡◌, ℕ, zero, suc, ◌+◌, ◌-◌, ◌<◌, ◌≤◌, max, Bool, List, length, replicate, Option, Some, None, slice_get, slice_set}
use Rattle.tm_onig_class.specs.Tree.{Tree, Empty, Char, Any, InSet, Cat, Alt, Group, Atomic, Repeat, Look, Back, Holds, Trees, NoTrees, More}
use Rattle.tm_onig_search.specs.Outcomes.{Caps, Hit, Outcome, accept}
use Rattle.tm_onig_search.specs.Places.{Subject, subject}
use Rattle.tm_onig_search.specs.Search.{search_tree}

-- the highest number of a group
unfoldable mutual
  pub last_group : Tree → ℕ
  last_group Empty = 0
  last_group (Char c fold) = 0
  last_group (Any newline) = 0
  last_group (InSet set fold) = 0
  last_group (Cat parts) = last_group_of parts
  last_group (Alt parts) = last_group_of parts
  last_group (Group number body) = max number (last_group body)
  last_group (Atomic body) = last_group body
  last_group (Repeat body least greatest greedy) = last_group body
  last_group (Look body ahead negative) = last_group body
  last_group (Back groups fold) = 0
  last_group (Holds place) = 0

  pub last_group_of : Trees → ℕ
  last_group_of NoTrees = 0
  last_group_of (More part parts) = max (last_group part) (last_group_of parts)

-- no group is set; the whole match has the place 0
abbrev pub blank : Tree → Caps
blank t = replicate (last_group t + 1) None

-- the groups of a match, the whole match first
abbrev pub with_whole : ℕ → Hit → Caps
with_whole start hit = slice_set hit.caps 0 (Some (start, hit.end))

-- the first match, if there is one, and the cost of all the starts tried
pub record Search : Type 0 where
  pub found : Option Caps
  pub cost : ℕ

abbrev pub found_or : ℕ → Option Hit → ℕ → Search → Search
found_or start (Some hit) n later = record { found = Some (with_whole start hit); cost = n }
found_or start None n later = record { found = later.found; cost = n + later.cost }

module _ (s : Subject) (t : Tree) where
  -- the pattern at one start
  abbrev pub at_start : ℕ → Outcome
  at_start start = search_tree s t accept start (blank t)

  -- the first n starts from this one on
  unfoldable pub first_of : ℕ → ℕ → Search
  first_of zero start = record { found = None; cost = 0 }
  first_of (suc n) start = found_or start (at_start start).hit (at_start start).cost (first_of n (start + 1))

-- every start from `from` to the text's end
abbrev pub tries : Tree → List ℕ → ℕ → Bool → Bool → Search
tries t line from allow_a allow_g = first_of (subject line from allow_a allow_g) t (length line + 1 - from) from

-- the groups of the match with the least start
abbrev pub first_match : Tree → List ℕ → ℕ → Bool → Bool → Option Caps
first_match t line from allow_a allow_g = (tries t line from allow_a allow_g).found

-- the number of cases that the searches from the starts tried enter
abbrev pub search_cost : Tree → List ℕ → ℕ → Bool → Bool → ℕ
search_cost t line from allow_a allow_g = (tries t line from allow_a allow_g).cost

module _ (t : Tree) (line : List ℕ) (from : ℕ) (allow_a allow_g : Bool) where
  -- the pattern's first success at one start, if there is one
  abbrev pub hit_at : ℕ → Option Hit
  hit_at start = (at_start (subject line from allow_a allow_g) t start).hit

  -- The groups are those of the least start at which the pattern matches.
  pub record IsLeast (caps : Caps) : Type 0 where
    pub start : ℕ
    pub hit : Hit
    pub from_first : from ≤ start
    pub to_end : start ≤ length line
    pub matches : hit_at start ≡ Some hit
    pub none_before : (q : ℕ) → from ≤ q → q < start → hit_at q ≡ None
    pub groups : caps ≡ with_whole start hit

-- Each group that is set starts at or before its end, and ends within a text of n characters.
abbrev pub AreWithin : ℕ → Caps → Type 0
AreWithin n caps = (group start end : ℕ) → slice_get caps group ≡ Some (Some (start, end)) → (start ≤ end) × (end ≤ n)
