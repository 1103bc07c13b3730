-- What a memo is of, and what it keeps of an answer.
use Rattle.std.specs.Prelude.{ℕ, ◌+◌, List, Option, Some, None, option_map, slice_set}
use Rattle.tm_onig_class.specs.declared.patterns.Pattern.{Pattern}
use Rattle.tm_onig_class.specs.Tree.{Tree, tree_of}
use Rattle.tm_onig_search.specs.Outcomes.{Caps}
use Rattle.tm_onig_scan.specs.Winner.{trees_of, patterns_at, start_of}

-- The patterns of a scanner; the numbers of those of a list, or none where all are searched; what stands in the list at a
-- place in place of its own pattern; and the text that is searched again and again.
pub record MemoOf : Type 0 where
  pub patterns : List (Option Pattern)
  pub numbers : Option (List ℕ)
  pub instead : Option (ℕ × Option Pattern)
  pub text : List ℕ

abbrev pub put_at : List (Option Tree) → Option (ℕ × Option Pattern) → List (Option Tree)
put_at ps None = ps
put_at ps (Some it) = slice_set ps it.0 (option_map tree_of it.1)

abbrev pub listed : List (Option Tree) → Option (List ℕ) → Option (ℕ × Option Pattern) → List (Option Tree)
listed ps None instead = ps
listed ps (Some numbers) instead = put_at (patterns_at ps numbers) instead

-- the patterns that it searches for
abbrev pub sought : MemoOf → List (Option Tree)
sought memo = listed (trees_of memo.patterns) memo.numbers memo.instead

-- up to which start of a text of n characters no match begins: that of the winner, and where there is none all of it
abbrev pub until_of : Option (ℕ × Caps) → ℕ → ℕ
until_of None n = n + 1
until_of (Some w) n = start_of w.1
