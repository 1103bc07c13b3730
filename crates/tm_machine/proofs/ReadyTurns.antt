-- The front of right entries has a start, and a turn on a line that is ready is a turn on the front.
use Rattle.std.proofs.Common.{◌≡◌, ℕ, suc, zero, ◌<◌, true, not, List, [], ◌∷◌, length, get_or, Some, None, Option, Result, Ok, Err, ap, sym, arith, ◌∙◌, subst, inr}
use Rattle.std.specs.Prelude.{map, IfOk, OnErr}
use Rattle.std.specs.Option.{option_map}
use Rattle.std.proofs.lemmas.List.Quantifiers.{position-Some}
use Rattle.tm_defs.specs.declared.events.Turn.{Turn}
use Rattle.tm_defs.specs.declared.events.Turn.TheVariants.{Done, Idle, Blocked}
use Rattle.tm_defs.specs.declared.frames.FrameData.{FrameData}
use Rattle.tm_defs.specs.declared.frames.StateId.{StateId}
use Rattle.tm_defs.specs.declared.tables.TableFault.{TableFault}
use Rattle.tm_defs.specs.Tables.{Tables, state_at, IsNumbering}
use Rattle.tm_machine.specs.declared.entries.Entry.{Entry}
use Rattle.tm_machine.specs.Entries.{front, start_at, end_at, blank, AreRight}
use Rattle.tm_machine.specs.Numbered.{with_state}
use Rattle.tm_machine.specs.Scratch.{Tokenizing}
use Rattle.tm_machine.specs.Turns.{IsReady, Turns, TurnsAt, opening}
use Rattle.tm_machine.proofs.Fronts.{not-false}
use Rattle.tm_machine.proofs.KnownEnds.{opening-state}
use Rattle.tm_machine.proofs.RightRuns.{AreRight-turn}
use Rattle.tm_machine.proofs.StateReads.{front-map, start-map}

-- the end of a good entry is there
good-ended : (k : Tokenizing) (budget : ℕ) (before : Option (List FrameData)) (lines : List (List ℕ)) (es : List (Entry (List FrameData))) (i : ℕ) (d : Entry (List FrameData)) →
    AreRight k budget before lines es → i < length es → (get_or es i d).good ≡ true → end_at es i ≡ None → ⊥
good-ended k budget before [] [] i d right h good none = omega arith
good-ended k budget before [] (e ∷ es) i d right h good none = right
good-ended k budget before (line ∷ lines) [] i d right h good none = right
good-ended k budget before (line ∷ lines) (e ∷ es) zero d right h good none =
    let holds = (right.0.good good).2 in let is = holds.end in cc
good-ended k budget before (line ∷ lines) (e ∷ es) (suc i) d right h good none = good-ended k budget e.end lines es i d right.1 (omega arith) good none

-- before the front there is a state
front-started : (k : Tokenizing) (budget : ℕ) (lines : List (List ℕ)) (es : List (Entry (List FrameData))) (i : ℕ) → AreRight k budget opening lines es → front es ≡ Some i → start_at opening es i ≡ None → ⊥
front-started k budget lines es zero right at none = cc
front-started k budget lines es (suc i) right at none =
    let p = position-Some (λ (e : Entry (List FrameData)). not e.good) es (suc i) (blank None) at in
    good-ended k budget opening lines es i (blank None) right (omega (arith, p.0)) (not-false _ (p.2 i (omega arith))) none

pub never-unstarted : (k : Tokenizing) (budget : ℕ) (lines : List (List ℕ)) (es : List (Entry StateId)) (t : Tables) (i : ℕ) →
    AreRight k budget opening lines (map (with_state t) es) → IsNumbering t → front es ≡ Some i → start_at (Some (record { 0 = 0 })) es i ≡ None → ⊥
never-unstarted k budget lines es t i right numbered at none =
    front-started k budget lines (map (with_state t) es) i right (front-map t es ∙ at)
    (start-map t es i (record { 0 = 0 }) (opening-state t numbered) ∙ ap (option_map (state_at t)) none)

-- a turn on a line that is ready is a turn on the front
pub turn-ready : (k : Tokenizing) (budget : ℕ) (lines : List (List ℕ)) (es : List (Entry (List FrameData))) (i : ℕ) (start : List FrameData) (line : List ℕ) (turn : Turn) (after : List (Entry (List FrameData))) →
    IsReady lines es i start line → TurnsAt k budget es i start line turn after → Turns k budget lines es turn after
turn-ready k budget lines es i start line Idle after ready h = absurd h
turn-ready k budget lines es i start line (Done j) after ready (same, is) =
    let P : ℕ → Type 0 = λ n. Turns k budget lines es (Done n) after in subst P (sym same) (start, line, ready, is)
turn-ready k budget lines es i start line (Blocked j) after ready (same, dear, is) =
    let P : ℕ → Type 0 = λ n. Turns k budget lines es (Blocked n) after in subst P (sym same) (inr (start, line, ready, dear, is))

pub turns-ready : (k : Tokenizing) (budget : ℕ) (lines : List (List ℕ)) (es : List (Entry (List FrameData))) (i : ℕ) (start : List FrameData) (line : List ℕ) (r : Result Turn TableFault) (after : List (Entry (List FrameData))) →
    IsReady lines es i start line → IfOk r (λ turn. TurnsAt k budget es i start line turn after) → IfOk r (λ turn. Turns k budget lines es turn after)
turns-ready k budget lines es i start line (Ok turn) after ready h = turn-ready k budget lines es i start line turn after ready h
turns-ready k budget lines es i start line (Err fault) after ready h = h

-- what is right stays right in every turn
pub right-after : (k : Tokenizing) (budget : ℕ) (lines : List (List ℕ)) (es after : List (Entry (List FrameData))) (r : Result Turn TableFault) → AreRight k budget opening lines es →
    IfOk r (λ turn. Turns k budget lines es turn after) → OnErr r (after ≡ es) → AreRight k budget opening lines after
right-after k budget lines es after (Ok turn) right ok err = AreRight-turn k budget lines es turn after right ok
right-after k budget lines es after (Err fault) right ok err = let P : List (Entry (List FrameData)) → Type 0 = λ xs. AreRight k budget opening lines xs in subst P (sym err) right
