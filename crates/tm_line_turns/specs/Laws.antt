-- The line relation, by its equation.
use Rattle.std.specs.Prelude.{◌≡◌, ℕ, ◌<◌, ◌≤◌, Bool, ⊤, Some, slice_get}
use Rattle.tm_line_turns.specs.declared.found.Match.{Match}
use Rattle.tm_defs.specs.declared.frames.FrameData.{FrameData}
use Rattle.tm_line_turns.specs.declared.found.Winner.{Winner}
use Rattle.tm_line_turns.specs.declared.found.Winner.TheVariants.{Nothing, Ends, Begins, Matches}
use Rattle.tm_line_turns.specs.LineRun.{Place, Grammar, Outcome, turn, after, line_run}

-- a match ends in the text, and its groups lie in it
pub record IsMatchWithin (len : ℕ) (m : Match) : Type 0 where
  pub end : m.end ≤ len
  pub groups : (group first last : ℕ) → slice_get m.groups group ≡ Some (Some (first, last)) → (first ≤ last) × (last ≤ len)

-- and the rule that begins has a number
abbrev pub IsWinnerWithin : ℕ → ℕ → Winner → Type 0
IsWinnerWithin rules end Nothing = ⊤
IsWinnerWithin rules end (Ends m) = IsMatchWithin end m
IsWinnerWithin rules end (Begins rule m) = IsMatchWithin end m × (rule < rules)
IsWinnerWithin rules end (Matches rule m) = IsMatchWithin end m

-- whatever is found is so
abbrev pub FindsWithin : Grammar → Type 0
FindsWithin g = (frame : FrameData) (has_end : Bool) (at : ℕ) (first anchored : Bool) → IsWinnerWithin g.rules g.end (g.winner frame has_end at first anchored)

-- the run from each place is one turn, and then the run from where it goes on
abbrev pub MeetsEquation : Grammar → (Place → Outcome) → Type 0
MeetsEquation g run = (p : Place) → run p ≡ after run (turn g p).part (turn g p).next

-- the line relation meets its equation, and no other function does
pub record IsLineRun (g : Grammar) : Type 0 where
  pub equation : MeetsEquation g (line_run g)
  pub only : (run : Place → Outcome) → MeetsEquation g run → (p : Place) → run p ≡ line_run g p
