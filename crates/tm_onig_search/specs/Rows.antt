-- The search of a list of goals, by its first goal: the table of cases of plain backtracking.
use Rattle.std.specs.Prelude.{◌≡◌, ℕ, ◌+◌, ◌≤◌, Bool, true, false, ◌==◌, List, [], ◌∷◌, ◌++◌, length, Option, Some, slice_get, slice_set, if◌then◌else◌}
use Rattle.regex_class.specs.Ranges.{Range}
use Rattle.tm_onig_class.specs.declared.patterns.Position.{Position}
use Rattle.tm_onig_class.specs.Tree.{Tree, Empty, Char, Any, InSet, Cat, Alt, Group, Atomic, Repeat, Look, Back, Holds, Trees, NoTrees, More}
use Rattle.tm_onig_search.specs.Outcomes.{Caps, Rest, fail, accept, tick, or_else, and_then, looked}
use Rattle.tm_onig_search.specs.Places.{Subject, passes, matches, in_set, is_any, holds}
use Rattle.tm_onig_search.specs.Widths.{least_width, greatest_width}
use Rattle.tm_onig_search.specs.Search.{close, choose, again, loop, at_goal, look_back, last_set, read_group, search_tree}

-- What is still to be done: a tree; the end of a group that began at a position; a loop that has made
-- so many rounds; the end of its round that began at a position; to have come to a position.
pub data Goal : Type 0 where
  Do : Tree → Goal
  Close : ℕ → ℕ → Goal
  Loop : Tree → ℕ → Option ℕ → Bool → ℕ → Goal
  Again : Tree → ℕ → Option ℕ → Bool → ℕ → ℕ → Goal
  At : ℕ → Goal

-- the goals of a row of parts
abbrev pub goals_of : Trees → List Goal
goals_of NoTrees = []
goals_of (More t ts) = Do t ∷ goals_of ts

module _ (s : Subject) where
  abbrev pub goal_rest : Goal → Rest → Rest
  goal_rest (Do t) k = search_tree s t k
  goal_rest (Close number start) k = close number start k
  goal_rest (Loop t least greatest greedy c) k = loop s (search_tree s t) least greatest greedy k c
  goal_rest (Again t least greatest greedy c start) k = again s (search_tree s t) least greatest greedy k c start
  goal_rest (At q) k = at_goal q k

  -- the goals in order, from a position with these captures
  unfoldable pub search : List Goal → Rest
  search [] = accept
  search (g ∷ gs) = goal_rest g (search gs)

  -- one character that passes, and the goals
  abbrev pub step : (ℕ → Bool) → List Goal → Rest
  step test gs pos caps = if passes test (slice_get s.line pos) then search gs (pos + 1) caps else fail

  -- each alternative before the goals, in order
  abbrev pub first_of : Trees → List Goal → Rest
  first_of NoTrees gs pos caps = fail
  first_of (More t ts) gs pos caps = or_else (search (Do t ∷ gs) pos caps) (first_of ts gs pos caps)

  pub record SearchRows : Type 0 where
    pub none : (pos : ℕ) (caps : Caps) → search [] pos caps ≡ accept pos caps
    pub empty : (gs : List Goal) (pos : ℕ) (caps : Caps) → search (Do Empty ∷ gs) pos caps ≡ tick (search gs pos caps)
    pub char : (c : ℕ) (fold : Bool) (gs : List Goal) (pos : ℕ) (caps : Caps) → search (Do (Char c fold) ∷ gs) pos caps ≡ tick (step (matches fold c) gs pos caps)
    pub any : (newline : Bool) (gs : List Goal) (pos : ℕ) (caps : Caps) → search (Do (Any newline) ∷ gs) pos caps ≡ tick (step (is_any newline) gs pos caps)
    pub set : (set : List Range) (fold : Bool) (gs : List Goal) (pos : ℕ) (caps : Caps) → search (Do (InSet set fold) ∷ gs) pos caps ≡ tick (step (in_set set fold) gs pos caps)
    pub cat : (ts : Trees) (gs : List Goal) (pos : ℕ) (caps : Caps) → search (Do (Cat ts) ∷ gs) pos caps ≡ tick (search (goals_of ts ++ gs) pos caps)
    pub alt : (ts : Trees) (gs : List Goal) (pos : ℕ) (caps : Caps) → search (Do (Alt ts) ∷ gs) pos caps ≡ tick (first_of ts gs pos caps)
    pub group : (n : ℕ) (t : Tree) (gs : List Goal) (pos : ℕ) (caps : Caps) → search (Do (Group n t) ∷ gs) pos caps ≡ tick (search (Do t ∷ Close n pos ∷ gs) pos caps)
    pub closes : (n start : ℕ) (gs : List Goal) (pos : ℕ) (caps : Caps) → search (Close n start ∷ gs) pos caps ≡ tick (search gs pos (slice_set caps n (Some (start, pos))))
    pub atomic : (t : Tree) (gs : List Goal) (pos : ℕ) (caps : Caps) → search (Do (Atomic t) ∷ gs) pos caps ≡ tick (and_then (search (Do t ∷ []) pos caps) (search gs))
    -- a loop begins with no round made
    pub repeat : (t : Tree) (least : ℕ) (greatest : Option ℕ) (greedy : Bool) (gs : List Goal) (pos : ℕ) (caps : Caps) →
        search (Do (Repeat t least greatest greedy) ∷ gs) pos caps ≡ search (Loop t least greatest greedy 0 ∷ gs) pos caps
    pub loops : (t : Tree) (least : ℕ) (greatest : Option ℕ) (greedy : Bool) (c : ℕ) (gs : List Goal) (pos : ℕ) (caps : Caps) → pos ≤ length s.line →
        search (Loop t least greatest greedy c ∷ gs) pos caps
        ≡ choose c least greatest greedy (search (Do t ∷ Again t least greatest greedy (c + 1) pos ∷ gs) pos caps) (search gs pos caps)
    pub agains : (t : Tree) (least : ℕ) (greatest : Option ℕ) (greedy : Bool) (c start : ℕ) (gs : List Goal) (pos : ℕ) (caps : Caps) →
        search (Again t least greatest greedy c start ∷ gs) pos caps
        ≡ tick (if pos == start then search gs pos caps else search (Loop t least greatest greedy c ∷ gs) pos caps)
    pub ahead : (t : Tree) (negative : Bool) (gs : List Goal) (pos : ℕ) (caps : Caps) →
        search (Do (Look t true negative) ∷ gs) pos caps ≡ tick (looked negative (search (Do t ∷ []) pos caps) (search gs) pos caps)
    pub behind : (t : Tree) (negative : Bool) (gs : List Goal) (pos : ℕ) (caps : Caps) →
        search (Do (Look t false negative) ∷ gs) pos caps
        ≡ tick (looked negative (look_back (λ q. search (Do t ∷ At pos ∷ []) q caps) (least_width t) (greatest_width t) pos) (search gs) pos caps)
    pub at : (q : ℕ) (gs : List Goal) (pos : ℕ) (caps : Caps) → search (At q ∷ gs) pos caps ≡ tick (if pos == q then search gs pos caps else fail)
    pub back : (groups : List ℕ) (fold : Bool) (gs : List Goal) (pos : ℕ) (caps : Caps) →
        search (Do (Back groups fold) ∷ gs) pos caps ≡ tick (read_group s fold (last_set caps groups) (search gs) pos caps)
    pub place : (place : Position) (gs : List Goal) (pos : ℕ) (caps : Caps) → search (Do (Holds place) ∷ gs) pos caps ≡ tick (if holds s place pos then search gs pos caps else fail)
