-- The groups of a tree that capture, and those that it refers to.
use Rattle.std.specs.Prelude.{◌≡◌, ℕ, zero, suc, ◌+◌, ◌≤◌, ◌&&◌, nat_le, true, List, [], ◌∷◌, ◌++◌, length}
use Rattle.std.specs.List.{list_all}
use Rattle.tm_onig_class.specs.Tree.{Tree, Empty, Char, Any, InSet, Cat, Alt, Group, Atomic, Repeat, Look, Back, Holds, Trees, NoTrees, More}

-- The numbers of the groups, in the order of their opening.
unfoldable mutual
  pub group_numbers : Tree → List ℕ
  group_numbers Empty = []
  group_numbers (Char c fold) = []
  group_numbers (Any newline) = []
  group_numbers (InSet set fold) = []
  group_numbers (Cat parts) = numbers_in parts
  group_numbers (Alt parts) = numbers_in parts
  group_numbers (Group number body) = number ∷ group_numbers body
  group_numbers (Atomic body) = group_numbers body
  group_numbers (Repeat body least greatest greedy) = group_numbers body
  group_numbers (Look body ahead negative) = group_numbers body
  group_numbers (Back groups fold) = []
  group_numbers (Holds place) = []

  pub numbers_in : Trees → List ℕ
  numbers_in NoTrees = []
  numbers_in (More part parts) = group_numbers part ++ numbers_in parts

-- The groups that back references name.
unfoldable mutual
  pub references : Tree → List ℕ
  references Empty = []
  references (Char c fold) = []
  references (Any newline) = []
  references (InSet set fold) = []
  references (Cat parts) = references_in parts
  references (Alt parts) = references_in parts
  references (Group number body) = references body
  references (Atomic body) = references body
  references (Repeat body least greatest greedy) = references body
  references (Look body ahead negative) = references body
  references (Back groups fold) = groups
  references (Holds place) = []

  pub references_in : Trees → List ℕ
  references_in NoTrees = []
  references_in (More part parts) = references part ++ references_in parts

-- the numbers from n + 1 on, so many
unfoldable pub counted : ℕ → ℕ → List ℕ
counted n zero = []
counted n (suc k) = (n + 1) ∷ counted (n + 1) k

-- Groups are numbered from 1 in the order of their opening, there are at most 1,000, and references
-- name such groups alone.
pub record IsNumbered (tree : Tree) : Type 0 where
  pub in_order : group_numbers tree ≡ counted 0 (length (group_numbers tree))
  pub few : length (group_numbers tree) ≤ 1000
  pub known : list_all (λ g. nat_le 1 g && nat_le g (length (group_numbers tree))) (references tree) ≡ true
