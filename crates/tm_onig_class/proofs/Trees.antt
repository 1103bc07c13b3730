-- The tree of each kind of pattern.
use Rattle.std.proofs.Common.{◌≡◌, ℕ, Bool, Option, List, map, sym, ap, ◌∙◌}
use Rattle.std.specs.declared.boxed.Box.{Box}
use Rattle.std.specs.declared.alloc.Global.{Global}
use Rattle.tm_onig_class.specs.declared.patterns.Position.{Position}
use Rattle.tm_onig_class.specs.declared.patterns.Pattern.{Pattern}
use Rattle.tm_onig_class.specs.declared.patterns.Pattern.TheOpen.{Pattern-F}
use Rattle.tm_onig_class.specs.declared.patterns.Pattern.TheFolds.{fold-roll-Pattern}
use Rattle.tm_onig_class.specs.declared.patterns.Pattern.TheVariants as P
use Rattle.tm_onig_class.specs.Tree.{Tree, Empty, Char, Any, InSet, Cat, Alt, Group, Atomic, Repeat, Look, Back, Holds, trees, node_tree, tree_of}

-- the tree of this kind of pattern
pub tree_of-Empty : tree_of P.Empty ≡ Empty
tree_of-Empty = ap tree_of (sym P.rolls-Empty) ∙ fold-roll-Pattern Tree node_tree Pattern-F.Empty

pub tree_of-Char : (c : ℕ) (fold : Bool) → tree_of (P.Char c fold) ≡ Char c fold
tree_of-Char c fold = ap tree_of (sym (P.rolls-Char c fold)) ∙ fold-roll-Pattern Tree node_tree (Pattern-F.Char c fold)

pub tree_of-Any : (newline : Bool) → tree_of (P.Any newline) ≡ Any newline
tree_of-Any newline = ap tree_of (sym (P.rolls-Any newline)) ∙ fold-roll-Pattern Tree node_tree (Pattern-F.Any newline)

pub tree_of-Set : (set : List (ℕ × ℕ)) (fold : Bool) → tree_of (P.Set set fold) ≡ InSet set fold
tree_of-Set set fold = ap tree_of (sym (P.rolls-Set set fold)) ∙ fold-roll-Pattern Tree node_tree (Pattern-F.Set set fold)

pub tree_of-Cat : (parts : List Pattern) → tree_of (P.Cat parts) ≡ Cat (trees (map tree_of parts))
tree_of-Cat parts = ap tree_of (sym (P.rolls-Cat parts)) ∙ fold-roll-Pattern Tree node_tree (Pattern-F.Cat parts)

pub tree_of-Alt : (parts : List Pattern) → tree_of (P.Alt parts) ≡ Alt (trees (map tree_of parts))
tree_of-Alt parts = ap tree_of (sym (P.rolls-Alt parts)) ∙ fold-roll-Pattern Tree node_tree (Pattern-F.Alt parts)

pub tree_of-Group : (number : ℕ) (body : Box Pattern Global) → tree_of (P.Group number body) ≡ Group number (tree_of body.value)
tree_of-Group number body = ap tree_of (sym (P.rolls-Group number body)) ∙ fold-roll-Pattern Tree node_tree (Pattern-F.Group number body)

pub tree_of-Atomic : (body : Box Pattern Global) → tree_of (P.Atomic body) ≡ Atomic (tree_of body.value)
tree_of-Atomic body = ap tree_of (sym (P.rolls-Atomic body)) ∙ fold-roll-Pattern Tree node_tree (Pattern-F.Atomic body)

pub tree_of-Repeat : (body : Box Pattern Global) (least : ℕ) (greatest : Option ℕ) (greedy : Bool) →
    tree_of (P.Repeat body least greatest greedy) ≡ Repeat (tree_of body.value) least greatest greedy
tree_of-Repeat body least greatest greedy =
    ap tree_of (sym (P.rolls-Repeat body least greatest greedy)) ∙ fold-roll-Pattern Tree node_tree (Pattern-F.Repeat body least greatest greedy)

pub tree_of-Look : (body : Box Pattern Global) (ahead negative : Bool) → tree_of (P.Look body ahead negative) ≡ Look (tree_of body.value) ahead negative
tree_of-Look body ahead negative = ap tree_of (sym (P.rolls-Look body ahead negative)) ∙ fold-roll-Pattern Tree node_tree (Pattern-F.Look body ahead negative)

pub tree_of-Back : (groups : List ℕ) (fold : Bool) → tree_of (P.Back groups fold) ≡ Back groups fold
tree_of-Back groups fold = ap tree_of (sym (P.rolls-Back groups fold)) ∙ fold-roll-Pattern Tree node_tree (Pattern-F.Back groups fold)

pub tree_of-Position : (place : Position) → tree_of (P.Position place) ≡ Holds place
tree_of-Position place = ap tree_of (sym (P.rolls-Position place)) ∙ fold-roll-Pattern Tree node_tree (Pattern-F.Position place)

-- each of them
pub ruleset nodes = (tree_of-Empty, tree_of-Char, tree_of-Any, tree_of-Set, tree_of-Cat, tree_of-Alt, tree_of-Group, tree_of-Atomic, tree_of-Repeat, tree_of-Look, tree_of-Back, tree_of-Position)
