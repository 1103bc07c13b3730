-- Plain backtracking search: a tree at a position, and then what follows. The table of its cases is
-- in Rows.
use Rattle.std.specs.Option.{option_or}
use Rattle.std.specs.Prelude.{ℕ, zero, suc, ◌+◌, ◌-◌, min, option_and_then, slice_range, Bool, true, false, ◌&&◌, ◌==◌, nat_lt, nat_le, List, [], ◌∷◌, length, drop, Option, Some, None, slice_get, slice_set, if◌then◌else◌}
use Rattle.tm_onig_class.specs.Tree.{Tree, Empty, Char, Any, InSet, Cat, Alt, Group, Atomic, Repeat, Look, Back, Holds, Trees, NoTrees, More}
use Rattle.tm_onig_search.specs.Outcomes.{Caps, Outcome, Rest, fail, accept, tick, or_else, and_then, looked, prefer}
use Rattle.tm_onig_search.specs.Places.{Subject, passes, matches, in_set, is_any, begins, holds}
use Rattle.tm_onig_search.specs.Widths.{least_width, greatest_width}

-- the group ends here
abbrev pub close : ℕ → ℕ → Rest → Rest
close number start k pos caps = tick (k pos (slice_set caps number (Some (start, pos))))

-- the search must have come to the position q
abbrev pub at_goal : ℕ → Rest → Rest
at_goal q k pos caps = tick (if pos == q then k pos caps else fail)

-- the count has reached the limit, if there is one
abbrev pub is_at : ℕ → Option ℕ → Bool
is_at c None = false
is_at c (Some n) = c == n

-- a loop that has made c rounds: another round, or the rest
abbrev pub choose : ℕ → ℕ → Option ℕ → Bool → Outcome → Outcome → Outcome
choose c least greatest greedy round leave =
    tick (if nat_lt c least then round else (if is_at c greatest then leave else prefer greedy round leave))

-- the last of the groups that is set
abbrev pub last_set : Caps → List ℕ → Option (ℕ × ℕ)
last_set caps [] = None
last_set caps (g ∷ gs) = option_or (last_set caps gs) (option_and_then (λ c. c) (slice_get caps g))

-- a search from the start q, and from the n starts before it, the nearest first
unfoldable pub nearest : (ℕ → Outcome) → ℕ → ℕ → Outcome
nearest attempt zero q = attempt q
nearest attempt (suc n) q = or_else (attempt q) (nearest attempt n (q - 1))

-- a width, or as much as there is where it is any
abbrev pub width_or : Option ℕ → ℕ → ℕ
width_or None n = n
width_or (Some w) n = w

-- A search from each start at least `least` and at most `greatest` before the position, the nearest
-- first, as far back as the text reaches.
abbrev pub look_back : (ℕ → Outcome) → ℕ → Option ℕ → ℕ → Outcome
look_back attempt least greatest pos =
    if nat_le least pos && nat_le least (width_or greatest pos)
    then nearest attempt (min pos (width_or greatest pos) - least) (pos - least) else fail

module _ (s : Subject) where
  -- one character that passes the test
  abbrev pub one : (ℕ → Bool) → Rest → Rest
  one test k pos caps = tick (if passes test (slice_get s.line pos) then k (pos + 1) caps else fail)

  -- the rounds of a loop from the count c on: one for each character that is left, and one more
  unfoldable pub rounds : (Rest → Rest) → ℕ → Option ℕ → Bool → Rest → ℕ → ℕ → Rest
  rounds body least greatest greedy k zero c pos caps = fail
  rounds body least greatest greedy k (suc n) c pos caps =
      choose c least greatest greedy
      (body (λ at cs. tick (if at == pos then k at cs else rounds body least greatest greedy k n (c + 1) at cs)) pos caps)
      (k pos caps)

  -- a loop that has made c rounds
  abbrev pub loop : (Rest → Rest) → ℕ → Option ℕ → Bool → Rest → ℕ → Rest
  loop body least greatest greedy k c pos = rounds body least greatest greedy k (suc (length s.line - pos)) c pos

  -- the end of a round that began at start, where c rounds are made now: a round without a character
  -- ends the loop
  abbrev pub again : (Rest → Rest) → ℕ → Option ℕ → Bool → Rest → ℕ → ℕ → Rest
  again body least greatest greedy k c start at cs =
      tick (if at == start then k at cs else loop body least greatest greedy k c at cs)

  -- the text stands at the position, and the rest goes on behind it
  abbrev pub read : Bool → List ℕ → Rest → Rest
  read fold text k pos caps = if begins fold text (drop pos s.line) then k (pos + length text) caps else fail

  -- the same with the text of a group that is set
  abbrev pub read_group : Bool → Option (ℕ × ℕ) → Rest → Rest
  read_group fold None k pos caps = fail
  read_group fold (Some g) k pos caps = read fold (slice_range s.line g.0 g.1) k pos caps

  unfoldable mutual
    -- `search_tree t k pos caps`: the tree at pos, and then k
    pub search_tree : Tree → Rest → Rest
    search_tree Empty k pos caps = tick (k pos caps)
    search_tree (Char c fold) k pos caps = one (matches fold c) k pos caps
    search_tree (Any newline) k pos caps = one (is_any newline) k pos caps
    search_tree (InSet set fold) k pos caps = one (in_set set fold) k pos caps
    search_tree (Cat ts) k pos caps = tick (search_row ts k pos caps)
    search_tree (Alt ts) k pos caps = tick (search_any ts k pos caps)
    search_tree (Group number t) k pos caps = tick (search_tree t (close number pos k) pos caps)
    search_tree (Atomic t) k pos caps = tick (and_then (search_tree t accept pos caps) k)
    search_tree (Repeat t least greatest greedy) k pos caps = loop (search_tree t) least greatest greedy k 0 pos caps
    search_tree (Look t true negative) k pos caps = tick (looked negative (search_tree t accept pos caps) k pos caps)
    search_tree (Look t false negative) k pos caps =
        tick (looked negative (look_back (λ q. search_tree t (at_goal pos accept) q caps) (least_width t) (greatest_width t) pos) k pos caps)
    search_tree (Back groups fold) k pos caps = tick (read_group fold (last_set caps groups) k pos caps)
    search_tree (Holds place) k pos caps = tick (if holds s place pos then k pos caps else fail)

    -- the parts one after another
    pub search_row : Trees → Rest → Rest
    search_row NoTrees k pos caps = k pos caps
    search_row (More t ts) k pos caps = search_tree t (search_row ts k) pos caps

    -- each of the parts, in order, until one succeeds together with what follows
    pub search_any : Trees → Rest → Rest
    search_any NoTrees k pos caps = fail
    search_any (More t ts) k pos caps = or_else (search_tree t k pos caps) (search_any ts k pos caps)
