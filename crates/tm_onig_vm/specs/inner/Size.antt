-- How many instructions the code of a tree has.
use Rattle.std.specs.Prelude.{ℕ, ◌+◌, true, false, if◌then◌else◌}
use Rattle.tm_onig_class.specs.Tree.{Tree, Empty, Char, Any, InSet, Cat, Alt, Group, Atomic, Repeat, Look, Back, Holds, Trees, NoTrees, More}
use Rattle.tm_onig_vm.specs.inner.Single.{is_single, is_span}

-- One for each node, one more for the end of a group, of a loop's round and of a body that is searched
-- alone, and one more for the place that a look-behind must come to. A greedy loop over one character is one
-- instruction, and so is a look at one. How many rounds a loop makes does not matter.
abbrev mutual
  pub code_size : Tree → ℕ
  code_size Empty = 1
  code_size (Char c fold) = 1
  code_size (Any newline) = 1
  code_size (InSet set fold) = 1
  code_size (Cat parts) = code_sizes parts + 1
  code_size (Alt parts) = code_sizes parts + 1
  code_size (Group number body) = code_size body + 2
  code_size (Atomic body) = code_size body + 2
  code_size (Repeat body least greatest greedy) = if is_span body least greatest greedy then 1 else code_size body + 2
  code_size (Look body true negative) = if is_single body then 1 else code_size body + 2
  code_size (Look body false negative) = if is_single body then 1 else code_size body + 3
  code_size (Back groups fold) = 1
  code_size (Holds place) = 1

  -- of all the parts
  pub code_sizes : Trees → ℕ
  code_sizes NoTrees = 0
  code_sizes (More part parts) = code_size part + code_sizes parts
