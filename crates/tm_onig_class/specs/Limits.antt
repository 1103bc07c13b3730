-- The limits of loops: the least number of rounds is at most the greatest.
use Rattle.std.specs.Prelude.{ℕ, ◌≤◌, Option, Some, None}
use Rattle.tm_onig_class.specs.Tree.{Tree, Empty, Char, Any, InSet, Cat, Alt, Group, Atomic, Repeat, Look, Back, Holds, Trees, NoTrees, More}

-- without a greatest number there is no limit
abbrev pub IsInOrder : ℕ → Option ℕ → Type 0
IsInOrder least None = Unit {0}
IsInOrder least (Some greatest) = least ≤ greatest

-- The limits of each loop in the tree are in order.
abbrev mutual
  pub AreLimitsInOrder : Tree → Type 0
  AreLimitsInOrder Empty = Unit {0}
  AreLimitsInOrder (Char c fold) = Unit {0}
  AreLimitsInOrder (Any newline) = Unit {0}
  AreLimitsInOrder (InSet set fold) = Unit {0}
  AreLimitsInOrder (Cat parts) = AreAllInOrder parts
  AreLimitsInOrder (Alt parts) = AreAllInOrder parts
  AreLimitsInOrder (Group number body) = AreLimitsInOrder body
  AreLimitsInOrder (Atomic body) = AreLimitsInOrder body
  AreLimitsInOrder (Repeat body least greatest greedy) = IsInOrder least greatest × AreLimitsInOrder body
  AreLimitsInOrder (Look body ahead negative) = AreLimitsInOrder body
  AreLimitsInOrder (Back groups fold) = Unit {0}
  AreLimitsInOrder (Holds place) = Unit {0}

  pub AreAllInOrder : Trees → Type 0
  AreAllInOrder NoTrees = Unit {0}
  AreAllInOrder (More part parts) = AreLimitsInOrder part × AreAllInOrder parts
