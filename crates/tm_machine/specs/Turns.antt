-- Turns on the lines of a text in order: each does the first line that is not good, or blocks it. And what is
-- counted of turns.
use Rattle.std.specs.Prelude.{◌≡◌, ◌⊎◌, ℕ, ◌+◌, ◌<◌, ◌≤◌, true, false, List, [], ◌∷◌, length, Option, Some, None, if◌then◌else◌, slice_get}
use Rattle.std.specs.List.Sorted.{IsStrictlyIncreasing}
use Rattle.tm_defs.specs.declared.events.Turn.{Turn}
use Rattle.tm_defs.specs.declared.events.Turn.TheVariants.{Done, Idle, Blocked}
use Rattle.tm_defs.specs.declared.frames.FrameData.{FrameData}
use Rattle.tm_machine.specs.declared.entries.Entry.{Entry}
use Rattle.tm_machine.specs.Entries.{block, blocked_at, front, is_accurate, start_at, stored}
use Rattle.tm_machine.specs.Scratch.{Tokenizing, state_from_scratch}

-- the state before the first line
abbrev pub opening : Option (List FrameData)
opening = Some []

-- the front is line i, it is not blocked, and has this start and these characters
pub record IsReady (lines : List (List ℕ)) (es : List (Entry (List FrameData))) (i : ℕ) (start : List FrameData) (line : List ℕ) : Type 0 where
  pub at_front : front es ≡ Some i
  pub not_blocked : blocked_at es i ≡ false
  pub begins : start_at opening es i ≡ Some start
  pub holds : slice_get lines i ≡ Some line

-- the front is line i, it is blocked, and its line costs more than the budget from its state from scratch
pub record IsBlockedFront (k : Tokenizing) (budget : ℕ) (lines : List (List ℕ)) (es : List (Entry (List FrameData))) (i : ℕ) : Type 0 where
  pub at_front : front es ≡ Some i
  pub blocked : blocked_at es i ≡ true
  pub costs : (line : List ℕ) × (slice_get lines i ≡ Some line) × (budget < k.plain_cost (state_from_scratch k lines i) line)

-- a turn on the front: its line is done or newly blocked. Where the cost exceeds the budget either may come
abbrev pub Turns : Tokenizing → ℕ → List (List ℕ) → List (Entry (List FrameData)) → Turn → List (Entry (List FrameData)) → Type 0
Turns k budget lines es Idle after = (front es ≡ None) × (after ≡ es)
Turns k budget lines es (Done i) after = (start : List FrameData) × (line : List ℕ) × IsReady lines es i start line × (after ≡ stored es i (k.tokenized start line))
Turns k budget lines es (Blocked i) after =
    ((front es ≡ Some i) × (blocked_at es i ≡ true) × (after ≡ es))
    ⊎ ((start : List FrameData) × (line : List ℕ) × IsReady lines es i start line × (budget < k.plain_cost start line) × (after ≡ block es i))

-- turns that each do a line, as long as not every line up to the last one is good: the lines done, in order
abbrev pub DoesLines : Tokenizing → ℕ → List (List ℕ) → (last : ℕ) → List (Entry (List FrameData)) → (done : List ℕ) → List (Entry (List FrameData)) → Type 0
DoesLines k budget lines last es [] after = after ≡ es
DoesLines k budget lines last es (i ∷ done) after =
    (is_accurate es last ≡ false) × ((mid : List (Entry (List FrameData))) × Turns k budget lines es (Done i) mid × DoesLines k budget lines last mid done after)

-- then no line is to be done: every line up to the last one is good, or the front is blocked
abbrev pub Rests : Tokenizing → ℕ → List (List ℕ) → (last : ℕ) → List (Entry (List FrameData)) → (blocked : Option ℕ) → List (Entry (List FrameData)) → Type 0
Rests k budget lines last es None after = (is_accurate es last ≡ true) × (after ≡ es)
Rests k budget lines last es (Some i) after = (is_accurate es last ≡ false) × Turns k budget lines es (Blocked i) after

-- turns are repeated until every line up to the last one is good or a turn answers Blocked
pub record Forces (k : Tokenizing) (budget : ℕ) (lines : List (List ℕ)) (last : ℕ) (es : List (Entry (List FrameData))) (count : ℕ) (blocked : Option ℕ) (after : List (Entry (List FrameData))) : Type 0 where
  pub done : List ℕ
  pub behind : List (Entry (List FrameData))
  pub does : DoesLines k budget lines last es done behind
  pub counts : count ≡ length done
  pub rests : Rests k budget lines last behind blocked after

-- line i is done, or it costs more than the budget and is blocked
abbrev pub TurnsAt : Tokenizing → (budget : ℕ) → List (Entry (List FrameData)) → (i : ℕ) → (start : List FrameData) → (line : List ℕ) → Turn → List (Entry (List FrameData)) → Type 0
TurnsAt k budget es i start line (Done j) after = (j ≡ i) × (after ≡ stored es i (k.tokenized start line))
TurnsAt k budget es i start line (Blocked j) after = (j ≡ i) × (budget < k.plain_cost start line) × (after ≡ block es i)
TurnsAt k budget es i start line Idle after = ⊥

-- how many lines a turn tokenizes: none where every entry is good or the front is blocked, and else one, also where it is refused
abbrev pub lines_tried : {S : Type 0} → List (Entry S) → Option ℕ → ℕ
lines_tried es None = 0
lines_tried es (Some i) = if blocked_at es i then 0 else 1

abbrev pub turn_ticks : {S : Type 0} → List (Entry S) → ℕ
turn_ticks es = lines_tried es (front es)

-- how many lines a run up to the last line tokenizes from here on without doing one
abbrev pub last_ticks : {S : Type 0} → (last : ℕ) → List (Entry S) → ℕ
last_ticks last es = if is_accurate es last then 0 else turn_ticks es

-- so many lines were done, none of them twice, and these entries stand behind them. Each was tokenized once, and one
-- line more where the run ended by a line that was newly blocked or refused
pub record IsRun (k : Tokenizing) (budget : ℕ) (lines : List (List ℕ)) (last : ℕ) (es : List (Entry (List FrameData))) (count before now : ℕ) (behind : List (Entry (List FrameData))) : Type 0 where
  pub done : List ℕ
  pub does : DoesLines k budget lines last es done behind
  pub counts : count ≡ length done
  pub once : IsStrictlyIncreasing done
  pub few : count ≤ length es
  pub ticks : now ≡ before + (count + last_ticks last behind)
