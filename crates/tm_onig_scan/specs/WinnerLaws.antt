-- What winning means, without the order of trying.
use Rattle.std.specs.Prelude.{◌≡◌, ℕ, ◌<◌, ◌≤◌, List, length, Bool, Option, Some, None, MatchOption, slice_get}
use Rattle.tm_onig_class.specs.Tree.{Tree}
use Rattle.tm_onig_search.specs.Outcomes.{Caps}
use Rattle.tm_onig_search.specs.Find.{hit_at, IsLeast}
use Rattle.tm_onig_scan.specs.Winner.{earliest_winner}

module _ (line : List ℕ) (from : ℕ) (allow_a allow_g : Bool) (patterns : List (Option Tree)) where
  -- The pattern of this number wins: it matches with these groups at its least start, none of the list matches
  -- at a lesser start, and none before it in the list matches at the same start.
  pub record IsWinner (winner : ℕ × Caps) : Type 0 where
    pub tree : Tree
    pub listed : slice_get patterns winner.0 ≡ Some (Some tree)
    pub least : IsLeast tree line from allow_a allow_g winner.1
    pub none_earlier : (j : ℕ) (other : Tree) (start : ℕ) → slice_get patterns j ≡ Some (Some other) →
        from ≤ start → start < least.start → hit_at other line from allow_a allow_g start ≡ None
    pub none_before : (j : ℕ) (other : Tree) → j < winner.0 → slice_get patterns j ≡ Some (Some other) →
        hit_at other line from allow_a allow_g least.start ≡ None

  -- with no winner no pattern of the list matches at any start up to the line's end
  abbrev pub IsEarliest : Type 0
  IsEarliest = MatchOption (earliest_winner line from allow_a allow_g patterns)
      ((j : ℕ) (tree : Tree) (start : ℕ) → slice_get patterns j ≡ Some (Some tree) →
      from ≤ start → start ≤ length line → hit_at tree line from allow_a allow_g start ≡ None)
      IsWinner
