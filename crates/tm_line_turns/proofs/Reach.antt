-- A line is painted to the text's end.
use Rattle.std.proofs.Common.{ℕ, Option, zero, suc, ◌<◌, ◌≤◌, not, nat_lt, length, List, [], ◌∷◌, ◌++◌, arith}
use Rattle.std.specs.Prelude.{⊤, ◌&&◌, ◌==◌}
use Rattle.tm_paint.specs.Painted.{Piece}
use Rattle.tm_line_turns.specs.declared.found.Match.{Match}
use Rattle.tm_line_turns.specs.declared.found.Winner.{Winner}
use Rattle.tm_line_turns.specs.declared.found.Winner.TheVariants.{Nothing, Ends, Begins, Matches}
use Rattle.tm_line_turns.specs.declared.found.Whose.TheVariants.{AtBegin, AtEnd, AtMatch}
use Rattle.tm_line_turns.specs.LineRun.{Open, Place, Part, Outcome, Turn, Next, Stops, GoesOn, Grammar, is_at, near, has, advances, closing, covered, joined, makes, names_made, opened, paint, plain, popped, popped_contents, searches, stack_of, most_open, ended, begun, matched, by_winner, asked, turn, after, runs, left, line_run}
use Rattle.tm_line_turns.specs.Laws.{FindsWithin}
use Rattle.tm_line_turns.specs.Painted.{painted, furthest}
use Rattle.tm_line_turns.proofs.Turns.{both, Falls, turn-falls}

module _ (meta : List (List ℕ) → ℕ) (g : Grammar) where
  -- a part of the line's last turn paints to the end
  abbrev IsLast : Part → Next → Type 0
  IsLast part (Stops stack) = g.end ≤ furthest (painted meta part.pieces)
  IsLast part (GoesOn q) = ⊤

  abbrev Reaches : Turn → Type 0
  Reaches t = IsLast t.part t.next

  pub furthest-right : (a b : List Piece) → furthest (painted meta b) ≤ furthest (painted meta (a ++ b))
  furthest-right [] b = omega arith
  furthest-right (x ∷ xs) b = let h = furthest-right xs b in omega arith

  joined-last : (a b : Part) (n : Next) → IsLast b n → IsLast (joined a b) n
  joined-last a b (Stops stack) h = let k = furthest-right a.pieces b.pieces in omega (arith, h)
  joined-last a b (GoesOn q) h = tt

  -- the last piece reaches the end
  paint-last : (scopes : List (List ℕ)) (stack : List Open) → IsLast (paint g.end scopes) (Stops stack)
  paint-last scopes stack = omega arith

  ended-reach : (p : Place) (m : Match) (below : List Open) → Reaches (ended g p m below)
  ended-reach p m [] = paint-last p.top.frame.contents (stack_of p)
  ended-reach p m (next ∷ rest) =
      let over : Part = covered g AtEnd p.top.frame.rule m (closing p.top ∷ next ∷ rest) p.top.frame.contents p.top.frame.names p.first in
      let stack : List Open = closing p.top ∷ next ∷ rest in
      both Reaches (not (advances p m) && is_at p.top.entry p.at) _ _ (λ _. joined-last over (paint g.end p.top.frame.names) (Stops stack) (paint-last p.top.frame.names stack)) (λ _. tt)

  -- names, what was covered, and the last piece
  third-last : (names over : Part) (scopes : List (List ℕ)) (stack : List Open) → IsLast (joined names (joined over (paint g.end scopes))) (Stops stack)
  third-last names over scopes stack =
      joined-last names (joined over (paint g.end scopes)) (Stops stack) (joined-last over (paint g.end scopes) (Stops stack) (paint-last scopes stack))

  begun-reach : (p : Place) (rule : ℕ) (m : Match) (end_text : Option (List ℕ)) (names content_names : List (List ℕ)) → Reaches (begun g p rule m end_text names content_names)
  begun-reach p rule m end_text names content_names =
      let outer : List (List ℕ) = p.top.frame.contents in
      let over : Part = covered g AtBegin rule m (opened (plain rule (outer ++ names) (m.end == g.end)) p.at p.anchor ∷ stack_of p) outer (outer ++ names) p.first in
      both Reaches (nat_lt (length (stack_of p)) most_open) _ _
      (λ _. both Reaches (not (advances p m) && has (near p.at (stack_of p)) rule) _ _
      (λ _. third-last (makes (names_made outer names)) over outer (stack_of p)) (λ _. tt))
      (λ _. paint-last outer (stack_of p))

  matched-reach : (p : Place) (rule : ℕ) (m : Match) (names : List (List ℕ)) → Reaches (matched g p rule m names)
  matched-reach p rule m names =
      let outer : List (List ℕ) = p.top.frame.contents in
      let over : Part = covered g AtMatch rule m (stack_of p) outer (outer ++ names) p.first in
      both Reaches (advances p m) _ _ (λ _. tt) (λ _. third-last (makes (names_made outer names)) over (popped_contents p.top p.below) (popped p.top p.below))

  by_winner-reach : (p : Place) (w : Winner) → Reaches (by_winner g p w)
  by_winner-reach p Nothing = paint-last p.top.frame.contents (stack_of p)
  by_winner-reach p (Ends m) = ended-reach p m p.below
  by_winner-reach p (Begins rule m) = begun-reach p rule m (g.end_text rule m) (g.names rule m) (g.content_names rule m)
  by_winner-reach p (Matches rule m) = matched-reach p rule m (g.names rule m)

  turn-reach : (p : Place) → Reaches (turn g p)
  turn-reach p = joined-last (searches (asked p g.cost)) (by_winner g p (asked p g.winner)).part (turn g p).next (by_winner-reach p (asked p g.winner))

  after-reach : (go : Place → Outcome) (p : Place) (part : Part) (n : Next) → Falls g p n → IsLast part n → ((q : Place) → left g q < left g p → g.end ≤ furthest (painted meta (go q).part.pieces)) →
      g.end ≤ furthest (painted meta (after go part n).part.pieces)
  after-reach go p part (Stops stack) falls reach more = reach
  after-reach go p part (GoesOn q) falls reach more = let h = more q falls in let k = furthest-right part.pieces (go q).part.pieces in omega arith

  runs-reach : FindsWithin g → (n : ℕ) (p : Place) → left g p < n → g.end ≤ furthest (painted meta (runs g n p).part.pieces)
  unfolding runs
  runs-reach finds zero p lt = absurd (omega arith)
  runs-reach finds (suc n) p lt = after-reach (runs g n) p (turn g p).part (turn g p).next (turn-falls g finds p) (turn-reach p) (λ q less. runs-reach finds n q (omega arith))

  pub line_run-reach : FindsWithin g → (p : Place) → g.end ≤ furthest (painted meta (line_run g p).part.pieces)
  unfolding line_run
  line_run-reach finds p = runs-reach finds (suc (left g p)) p (omega arith)
