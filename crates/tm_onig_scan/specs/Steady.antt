-- Patterns that match at a start alike wherever the search began: those without `\A` and `\G`.
use Rattle.std.specs.Prelude.{◌≡◌, ℕ, ◌≤◌, ◌<◌, Bool, true, false, ◌&&◌, List, [], ◌∷◌, Option, Some, None, slice_get}
use Rattle.tm_onig_class.specs.declared.patterns.Position.{Position}
use Rattle.tm_onig_class.specs.declared.patterns.Position.TheVariants.{LineStart, LineEnd, TextStart, SearchStart, BeforeFinal, TextEnd, Word, NotWord}
use Rattle.tm_onig_class.specs.Tree.{Tree, Empty, Char, Any, InSet, Cat, Alt, Group, Atomic, Repeat, Look, Back, Holds, Trees, NoTrees, More}
use Rattle.tm_onig_search.specs.Find.{hit_at}

-- whether the text alone decides that the place is there
abbrev pub is_of_text : Position → Bool
is_of_text LineStart = true
is_of_text LineEnd = true
is_of_text TextStart = false
is_of_text SearchStart = false
is_of_text BeforeFinal = true
is_of_text TextEnd = true
is_of_text Word = true
is_of_text NotWord = true

-- neither `\A` nor `\G` stands in it
unfoldable mutual
  pub is_steady : Tree → Bool
  is_steady Empty = true
  is_steady (Char c fold) = true
  is_steady (Any newline) = true
  is_steady (InSet set fold) = true
  is_steady (Cat parts) = are_steady parts
  is_steady (Alt parts) = are_steady parts
  is_steady (Group number body) = is_steady body
  is_steady (Atomic body) = is_steady body
  is_steady (Repeat body least greatest greedy) = is_steady body
  is_steady (Look body ahead negative) = is_steady body
  is_steady (Back groups fold) = true
  is_steady (Holds place) = is_of_text place

  pub are_steady : Trees → Bool
  are_steady NoTrees = true
  are_steady (More part parts) = is_steady part && are_steady parts

-- what is unreadable matches nowhere
abbrev pub steady_if : Option Tree → Bool
steady_if None = true
steady_if (Some t) = is_steady t

-- of all patterns of a list
abbrev pub all_steady : List (Option Tree) → Bool
all_steady [] = true
all_steady (p ∷ ps) = steady_if p && all_steady ps

-- No pattern of the list matches at a start from `from` up to before `until`, wherever the search began.
abbrev pub NoneStarts : List ℕ → List (Option Tree) → ℕ → ℕ → Type 0
NoneStarts line patterns from until =
    (number : ℕ) (tree : Tree) (start first : ℕ) (allow_a allow_g : Bool) → slice_get patterns number ≡ Some (Some tree) → from ≤ start → start < until →
    hit_at tree line first allow_a allow_g start ≡ None
