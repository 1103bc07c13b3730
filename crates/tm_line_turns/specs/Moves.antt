-- Turns that stay at one position.
use Rattle.std.specs.Prelude.{◌≡◌, ◌⊎◌, ℕ, suc, ◌≤◌, List, [], ◌∷◌, ⊤}
use Rattle.tm_line_turns.specs.declared.found.Winner.{Winner}
use Rattle.tm_line_turns.specs.declared.found.Winner.TheVariants.{Ends, Begins}
use Rattle.tm_line_turns.specs.LineRun.{Place, Grammar, GoesOn, asked, turn}

-- what a turn does that goes on at its position: it leaves the innermost rule, or enters one more
pub data Move : Type 0 where
  Leaves : Move
  Enters : Move

abbrev pub IsFoundBy : Winner → Move → Type 0
IsFoundBy (Ends m) Leaves = ⊤
IsFoundBy (Begins rule m) Enters = ⊤
IsFoundBy found move = ⊥

module _ (g : Grammar) where
  -- the turn at p does so, and goes on at q
  pub record IsMove (move : Move) (p q : Place) : Type 0 where
    pub found : IsFoundBy (asked p g.winner) move
    pub goes : (turn g p).next ≡ GoesOn q
    pub stays : q.at ≡ p.at

  -- turns one after the other that stay at one position
  abbrev pub Stays : List Move → Place → Place → Type 0
  Stays [] p r = p ≡ r
  Stays (move ∷ moves) p r = (q : Place) × IsMove move p q × Stays moves q r

abbrev pub AllEnter : List Move → Type 0
AllEnter [] = ⊤
AllEnter (Leaves ∷ moves) = ⊥
AllEnter (Enters ∷ moves) = AllEnter moves

-- no rule is left behind one that was entered
abbrev pub LeaveFirst : List Move → Type 0
LeaveFirst [] = ⊤
LeaveFirst (Leaves ∷ moves) = LeaveFirst moves
LeaveFirst (Enters ∷ moves) = AllEnter moves

abbrev pub entered_by : List Move → ℕ
entered_by [] = 0
entered_by (Leaves ∷ moves) = entered_by moves
entered_by (Enters ∷ moves) = suc (entered_by moves)

-- A turn that goes on at its position leaves a rule or enters one. At one position the ends come before any begin, and
-- the begins are at most as many as there are rules.
pub record IsOrdered (g : Grammar) : Type 0 where
  pub either : (p q : Place) → (turn g p).next ≡ GoesOn q → q.at ≡ p.at → IsMove g Leaves p q ⊎ IsMove g Enters p q
  pub leave_first : (moves : List Move) (p q : Place) → Stays g moves p q → LeaveFirst moves
  pub few : (moves : List Move) (p q : Place) → Stays g moves p q → entered_by moves ≤ g.rules
