-- Patterns as plain trees, one kind of node for each kind of pattern.
use Rattle.std.specs.Prelude.{ℕ, Bool, List, [], ◌∷◌, Option}
use Rattle.tm_onig_class.specs.declared.patterns.Position.{Position}
use Rattle.tm_onig_class.specs.declared.patterns.Pattern.{Pattern}
use Rattle.tm_onig_class.specs.declared.patterns.Pattern.TheOpen.{Pattern-F}
use Rattle.tm_onig_class.specs.declared.patterns.Pattern.TheFolds.{fold-Pattern}

-- A set is given by its ranges, a look by whether it looks ahead and whether it is negative.
mutual
  pub data Tree : Type 0 where
    Empty : Tree
    Char : ℕ → Bool → Tree
    Any : Bool → Tree
    InSet : List (ℕ × ℕ) → Bool → Tree
    Cat : Trees → Tree
    Alt : Trees → Tree
    Group : ℕ → Tree → Tree
    Atomic : Tree → Tree
    Repeat : Tree → ℕ → Option ℕ → Bool → Tree
    Look : Tree → Bool → Bool → Tree
    Back : List ℕ → Bool → Tree
    Holds : Position → Tree

  pub data Trees : Type 0 where
    NoTrees : Trees
    More : Tree → Trees → Trees

-- a list of trees as the parts of a node
abbrev pub trees : List Tree → Trees
trees [] = NoTrees
trees (t ∷ ts) = More t (trees ts)

-- one node, with the tree of each part in its place
abbrev pub node_tree : Pattern-F Tree → Tree
node_tree Pattern-F.Empty = Empty
node_tree (Pattern-F.Char c fold) = Char c fold
node_tree (Pattern-F.Any newline) = Any newline
node_tree (Pattern-F.Set set fold) = InSet set fold
node_tree (Pattern-F.Cat parts) = Cat (trees parts)
node_tree (Pattern-F.Alt parts) = Alt (trees parts)
node_tree (Pattern-F.Group number body) = Group number body.value
node_tree (Pattern-F.Atomic body) = Atomic body.value
node_tree (Pattern-F.Repeat body least greatest greedy) = Repeat body.value least greatest greedy
node_tree (Pattern-F.Look body ahead negative) = Look body.value ahead negative
node_tree (Pattern-F.Back groups fold) = Back groups fold
node_tree (Pattern-F.Position place) = Holds place

-- A character or a set: each match takes exactly one character.
abbrev pub IsOne : Tree → Type 0
IsOne (Char c fold) = Unit {0}
IsOne (InSet set fold) = Unit {0}
IsOne _ = ⊥

-- the tree of a pattern
abbrev pub tree_of : Pattern → Tree
tree_of = fold-Pattern Tree node_tree
