-- Why the steps of a script may stop, and what was written by then.
use Rattle.std.specs.Prelude.{◌≡◌, ◌⊎◌, ℕ, ◌+◌, ◌<◌, Contains, List, [], take, Option, Some, slice_get}
use Rattle.tm_defs.specs.declared.changes.Change.{Change}
use Rattle.tm_defs.specs.declared.events.Step.TheVariants.{Edit}
use Rattle.tm_forms.specs.declared.script.ScriptStep.TheVariants.{Core}
use Rattle.tm_forms.specs.declared.script.Scripted.{Scripted}
use Rattle.tm_machine.specs.Documents.{Rules}
use Rattle.tm_machine.specs.Machine.{Machine}
use Rattle.tm_machine.specs.Places.{IsIn}
use Rattle.tm_machine.specs.Reach.{Stand, stand_in, stands_of, ReachesMoreThan}
use Rattle.tm_machine.specs.Scratch.{state_from_scratch}
use Rattle.tm_outside.specs.Causes.{Takes, TakesFront, Rose}
use Rattle.tm_app.specs.declared.play.Fault.{Fault}
use Rattle.tm_app.specs.declared.play.Fault.TheVariants.{SinkFault, OutOfMemory, TableFull, BadPlace}
use Rattle.tm_app.specs.Play.{Prints, Plays, machine_steps}

-- a run needs a table of states to hold more than this many entries of one kind before it may answer that a table is full
abbrev pub large_reach : ℕ
large_reach = 8388608

-- a line of a text that stood takes more steps of plain search than the budget, from its state from scratch
abbrev pub HasCostlyLine : Rules → List Stand → Type 0
HasCostlyLine r stands =
    (s : Stand) × (i : ℕ) × (line : List ℕ) × Contains stands s × (slice_get s.lines i ≡ Some line)
    × (r.budget < (r.setting s.epoch).plain_cost (state_from_scratch (r.setting s.epoch) s.lines i) line)

-- why a text was not written whole
abbrev pub IsWriteStop : Type 0 → (before now : ℕ) → Fault → Type 0
IsWriteStop part before now SinkFault = part × Rose before now
IsWriteStop part before now OutOfMemory = part
IsWriteStop part before now TableFull = ⊥
IsWriteStop part before now (BadPlace line) = ⊥

-- the places of an edit at this line of the script are not in the text
abbrev pub IsBadEdit : Machine → Scripted → ℕ → Type 0
IsBadEdit m x line = (change : Change) × (x.step ≡ Core (Edit change)) × (x.line ≡ line) × ¬ (IsIn m.fore.text.lines change)

module _ (r : Rules) (m : Machine) where
  -- a front of what a step may print was taken
  abbrev pub WritesStep : Scripted → Option (List ℕ) → Option (List ℕ) → Type 0
  WritesStep x before now = (bytes : List ℕ) × (n : Machine) × Prints r m x.step bytes n × TakesFront before now bytes

  -- why a step stops, where these stood before
  abbrev pub StepStops : List Stand → Scripted → Option (List ℕ) → Option (List ℕ) → (faults faults_now : ℕ) → Fault → Type 0
  StepStops past x before now faults faults_now SinkFault = WritesStep x before now × Rose faults faults_now
  StepStops past x before now faults faults_now OutOfMemory = Takes before now [] ⊎ WritesStep x before now
  StepStops past x before now faults faults_now TableFull = ReachesMoreThan large_reach r past × Takes before now []
  StepStops past x before now faults faults_now (BadPlace line) = IsBadEdit m x line × Takes before now []

  -- a front of what the first so many steps may print was taken
  abbrev pub WritesSome : List Scripted → Option (List ℕ) → Option (List ℕ) → Type 0
  WritesSome steps before now = (k : ℕ) × (bytes : List ℕ) × (n : Machine) × Plays r m (take k steps) bytes n × TakesFront before now bytes

  -- the steps before number k were done, and all that they print was taken
  pub record StopsBefore (k : ℕ) (steps : List Scripted) (before now : Option (List ℕ)) : Type 0 where
    pub bytes : List ℕ
    pub last : Machine
    pub plays : Plays r m (take k steps) bytes last
    pub takes : Takes before now bytes

  -- why a list of steps stops
  abbrev pub PlayStops : List Scripted → Option (List ℕ) → Option (List ℕ) → (faults faults_now : ℕ) → Fault → Type 0
  PlayStops steps before now faults faults_now SinkFault = WritesSome steps before now × Rose faults faults_now
  PlayStops steps before now faults faults_now OutOfMemory = WritesSome steps before now
  PlayStops steps before now faults faults_now TableFull =
      (k : ℕ) × StopsBefore k steps before now × ReachesMoreThan large_reach r (stands_of (stand_in m) (machine_steps (take (k + 1) steps)))
  PlayStops steps before now faults faults_now (BadPlace line) =
      (k : ℕ) × (stop : StopsBefore k steps before now) × ((x : Scripted) × (slice_get steps k ≡ Some x) × IsBadEdit stop.last x line)
