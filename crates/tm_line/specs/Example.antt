-- A worked search: two candidates in a line.
use Rattle.std.specs.Prelude.{ℕ, List, [], ◌∷◌, ◌++◌, Option, Some, false, codes}
use Rattle.tm_onig_class.specs.Tree.{Tree, Char, InSet, Cat, NoTrees, More}
use Rattle.tm_onig_search.specs.Outcomes.{Caps}

-- two letters in a row
abbrev pub letters : ℕ → ℕ → Tree
letters a b = Cat (More (Char a false) (More (Char b false) NoTrees))

-- `[0-9]` and `/*`
abbrev pub patterns : List (Option Tree)
patterns = Some (InSet ((48, 57) ∷ []) false) ∷ Some (letters 47 42) ∷ []

-- the line `1 /*2` with its line break
abbrev pub text : List ℕ
text = codes "1 /*2" ++ 10 ∷ []

abbrev pub found_at : ℕ → ℕ → ℕ → Option (ℕ × Caps)
found_at place start end = Some (place, Some (start, end) ∷ [])
