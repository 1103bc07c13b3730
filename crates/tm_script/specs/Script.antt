-- A script: its steps, or the first line that is wrong.
use Rattle.std.specs.Prelude.{◌≡◌, ◌≤◌, ℕ, suc, ◌==◌, List, [], ◌∷◌, length, map, take, Option, Some, None, Result, Ok, Err, if◌then◌else◌, nat_lt, Bool, true, false, not, ⊤}
use Rattle.std.specs.List.{list_any, position_from, prefix_len, slice_split}
use Rattle.tm_defs.specs.declared.events.Step.TheVariants.{Drain, Work, Post, Accept}
use Rattle.tm_script.specs.declared.script.ScriptFault.{ScriptFault}
use Rattle.tm_script.specs.declared.script.ScriptFault.TheVariants.{BadStep, TooManySteps, NotYet, OutOfMemory}
use Rattle.tm_script.specs.declared.steps.ScriptStep.{ScriptStep}
use Rattle.tm_script.specs.declared.steps.ScriptStep.TheVariants.{Core, Show}
use Rattle.tm_script.specs.declared.steps.Scripted.{Scripted}
use Rattle.tm_script.specs.declared.words.Said.{Said}
use Rattle.tm_script.specs.declared.words.Said.TheVariants.{Nothing, Step, Wrong}
use Rattle.tm_script.specs.Steps.{said_in}

-- how many steps a script may have
abbrev pub step_limit : ℕ
step_limit = 1000000

-- only a line feed ends a line; behind the last one stands a line too
abbrev pub lines_in : List ℕ → List (List ℕ)
lines_in bytes = slice_split (λ byte. byte == 10) bytes

abbrev pub is_right : Said → Bool
is_right Nothing = true
is_right (Step step) = true
is_right Wrong = false

-- the steps that lines say, the first of which has this number
abbrev pub steps_from : ℕ → List Said → List Scripted
steps_from n [] = []
steps_from n (Nothing ∷ lines) = steps_from (suc n) lines
steps_from n (Step step ∷ lines) = record { line = n; step = step } ∷ steps_from (suc n) lines
steps_from n (Wrong ∷ lines) = steps_from (suc n) lines

-- the steps that stand before the first wrong line: the earlier place in a file decides what is wrong with it
abbrev pub leading_steps : List Said → List Scripted
leading_steps lines = steps_from 0 (take (prefix_len is_right lines) lines)

abbrev pub first_wrong : List Said → Option ℕ
first_wrong lines = position_from (λ line. not (is_right line)) 0 lines

abbrev pub unless_wrong : List Scripted → Option ℕ → Result (List Scripted) ScriptFault
unless_wrong steps None = Ok steps
unless_wrong steps (Some line) = Err (BadStep line)

-- what is read: the earlier place decides, so the steps before the first wrong line are counted first
abbrev pub steps_or_fault : List Scripted → Option ℕ → Result (List Scripted) ScriptFault
steps_or_fault steps wrong = if nat_lt step_limit (length steps) then Err TooManySteps else unless_wrong steps wrong

abbrev pub steps_of : List Said → Result (List Scripted) ScriptFault
steps_of lines = steps_or_fault (leading_steps lines) (first_wrong lines)

-- the worker's steps, and the acceptance of what it posts
abbrev pub is_workers : ScriptStep → Bool
is_workers (Core Drain) = true
is_workers (Core Work) = true
is_workers (Core Post) = true
is_workers (Core Accept) = true
is_workers (Core _) = false
is_workers (Show _) = false

abbrev pub is_to_come : Scripted → Bool
is_to_come scripted = is_workers scripted.step

-- no worker is built yet: a script in which nothing is wrong is refused where it has one of its steps
abbrev pub without_worker : Result (List Scripted) ScriptFault → Result (List Scripted) ScriptFault
without_worker (Ok steps) = if list_any is_to_come steps then Err NotYet else Ok steps
without_worker (Err fault) = Err fault

-- what is answered of the bytes of a script, where memory suffices
abbrev pub script_in : List ℕ → Result (List Scripted) ScriptFault
script_in bytes = without_worker (steps_of (map said_in (lines_in bytes)))

-- what every script is
pub record IsScript (steps : List Scripted) : Type 0 where
  pub few : length steps ≤ step_limit
  pub built : list_any is_to_come steps ≡ false

-- a refusal is the answer, or want of memory
abbrev pub IsRefusalOf : Result (List Scripted) ScriptFault → ScriptFault → Type 0
IsRefusalOf answer (BadStep line) = answer ≡ Err (BadStep line)
IsRefusalOf answer TooManySteps = answer ≡ Err TooManySteps
IsRefusalOf answer NotYet = answer ≡ Err NotYet
IsRefusalOf answer OutOfMemory = ⊤
