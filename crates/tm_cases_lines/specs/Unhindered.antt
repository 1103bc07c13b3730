-- Work in whose way nothing stands, and that is done whole then.
use Rattle.std.specs.Prelude.{◌≡◌, ℕ, List, Option, Some, false, take, slice_get, ⊤}
use Rattle.tm_forms.specs.declared.script.Scripted.{Scripted}
use Rattle.tm_machine.specs.Changes.{lines_of}
use Rattle.tm_machine.specs.Documents.{Rules}
use Rattle.tm_machine.specs.Machine.{Machine, machine_of}
use Rattle.tm_machine.specs.Reach.{stand_in, stands_of, ReachesMoreThan}
use Rattle.tm_app.specs.Outcome.{WorkDone, grammar_rules}
use Rattle.tm_app.specs.Play.{Plays, machine_steps}
use Rattle.tm_app.specs.inner.Setup.{Work, Linted, Played}
use Rattle.tm_app.specs.Stops.{IsBadEdit, HasCostlyLine, large_reach}
use Rattle.tm_app.specs.declared.status.Status.{Status}
use Rattle.tm_app.specs.declared.status.Status.TheVariants.{Ok, Usage, FileFault, Refused, SinkFault, OutOfMemory, BudgetSeen, TableFull}

-- the places of each edit are in the text that it changes, the texts of the steps reach few entries, and none of them
-- has a line that costs more than the budget
pub record IsUnhindered (r : Rules) (m : Machine) (steps : List Scripted) : Type 0 where
  pub places : (k : ℕ) (bytes : List ℕ) (last : Machine) (x : Scripted) (line : ℕ) → Plays r m (take k steps) bytes last → slice_get steps k ≡ Some x → ¬ (IsBadEdit last x line)
  pub reach : ¬ (ReachesMoreThan large_reach r (stands_of (stand_in m) (machine_steps steps)))
  pub costs : ¬ (HasCostlyLine r (stands_of (stand_in m) (machine_steps steps)))

-- nothing hinders a list of patterns
abbrev pub IsFree : Work → Type 0
IsFree (Linted settings) = ⊤
IsFree (Played setup) = IsUnhindered (grammar_rules setup.settings setup.budget) (machine_of (lines_of setup.text)) setup.script

-- all of the work is written, or memory was wanted
abbrev pub IsWhole : Work → Option (List ℕ) → Option (List ℕ) → Status → Type 0
IsWhole work taken taken_now Ok = WorkDone work taken taken_now false
IsWhole work taken taken_now OutOfMemory = ⊤
IsWhole work taken taken_now Usage = ⊥
IsWhole work taken taken_now (FileFault name) = ⊥
IsWhole work taken taken_now (Refused name what) = ⊥
IsWhole work taken taken_now SinkFault = ⊥
IsWhole work taken taken_now BudgetSeen = ⊥
IsWhole work taken taken_now TableFull = ⊥
