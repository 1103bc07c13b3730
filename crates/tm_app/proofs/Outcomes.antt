-- How a run ends.
use Rattle.std.proofs.Common.{◌≡◌, ℕ, List, [], zero, suc, Option, Some, None, Bool, true, false, sym, subst, inl, inr}
use Rattle.std.proofs.lemmas.List.{append-nil}
use Rattle.std.specs.Prelude.{slice_get}
use Rattle.tm_app.specs.declared.play.Fault.TheVariants as fault
use Rattle.tm_app.specs.declared.status.What.{What}
use Rattle.tm_app.specs.declared.status.What.TheVariants.{NotJson, BadShape, NotYet, TooManyRules, BadPlace}
use Rattle.tm_app.specs.declared.status.Status.{Status}
use Rattle.tm_app.specs.declared.status.Status.TheVariants.{Ok, Usage, FileFault, Refused, SinkFault, OutOfMemory, BudgetSeen, TableFull}
use Rattle.tm_app.specs.Report.{Keeps}
use Rattle.tm_app.specs.Told.{where_told}
use Rattle.tm_defs.specs.declared.changes.Change.{Change}
use Rattle.tm_defs.specs.declared.events.Step.TheVariants.{Edit}
use Rattle.tm_script.specs.declared.steps.ScriptStep.TheVariants.{Core}
use Rattle.tm_script.specs.declared.steps.Scripted.{Scripted}
use Rattle.tm_forms.specs.Script.{scan_steps}
use Rattle.tm_app.specs.Command.{Names, Run, IsCommand}
use Rattle.tm_app.specs.Lint.{lint_text}
use Rattle.tm_app.specs.Reading.{IsSetupLoaded, GivesScript}
use Rattle.tm_app.specs.inner.Setup.{SetupData, Work, Linted, Played}
use Rattle.tm_machine.specs.Machine.{machine_of}
use Rattle.tm_machine.specs.Changes.{lines_of}
use Rattle.tm_app.specs.Outcome.{Outcome, StopsLoad, SetupStops, WorkDone, WorkStops, IsDone, grammar_rules, IsBadPlace}
use Rattle.tm_app.proofs.PlayRuns.{some-now, all-now}
use Rattle.tm_app.proofs.ReadStops.{not-place}

-- work that is done or stops may be cut off by want of memory there
done-memory : (work : Work) (a b : Option (List ℕ)) (seen : Bool) (f g : ℕ) → WorkDone work a b seen → WorkStops work a b f g fault.OutOfMemory
done-memory (Linted settings) a b seen f g h = (lint_text settings, [], sym (append-nil (lint_text settings)), h.0)
done-memory (Played setup) a b seen f g h = all-now (grammar_rules setup.settings setup.budget) (machine_of (lines_of setup.text)) h.1 setup.script a b h.0 h.2 h.3

sink-memory : (work : Work) (a b : Option (List ℕ)) (f g : ℕ) → WorkStops work a b f g fault.SinkFault → WorkStops work a b f g fault.OutOfMemory
sink-memory (Linted settings) a b f g h = h.0
sink-memory (Played setup) a b f g h = h.0

full-memory : (work : Work) (a b : Option (List ℕ)) (f g : ℕ) → WorkStops work a b f g fault.TableFull → WorkStops work a b f g fault.OutOfMemory
full-memory (Linted settings) a b f g h = absurd h
full-memory (Played setup) a b f g h = some-now (grammar_rules setup.settings setup.budget) (machine_of (lines_of setup.text)) setup.script a b h.0 h.1

place-memory : (work : Work) (a b : Option (List ℕ)) (f g line : ℕ) → WorkStops work a b f g (fault.BadPlace line) → WorkStops work a b f g fault.OutOfMemory
place-memory (Linted settings) a b f g line h = absurd h
place-memory (Played setup) a b f g line h = some-now (grammar_rules setup.settings setup.budget) (machine_of (lines_of setup.text)) setup.script a b h.0 h.1

module _ (words : List (List ℕ)) (tells : List ℕ → Option (List ℕ)) (failed failed_now : List (List ℕ)) (taken taken_now : Option (List ℕ)) (faults faults_now : ℕ) where
  pub load-outcome : (status : Status) → StopsLoad words tells failed failed_now taken taken_now faults faults_now status → Outcome words tells failed failed_now taken taken_now faults faults_now status
  load-outcome (FileFault name) h = h
  load-outcome (Refused name NotJson) h = h
  load-outcome (Refused name (BadShape path)) h = h
  load-outcome (Refused name NotYet) h = h
  load-outcome (Refused name TooManyRules) h = h
  load-outcome (Refused name (BadPlace line)) h = absurd (not-place line h.2.4.0 h.2.4.1)
  load-outcome OutOfMemory h = inl h.3
  load-outcome Ok h = absurd h.2
  load-outcome Usage h = absurd h.2
  load-outcome SinkFault h = absurd h.2
  load-outcome BudgetSeen h = absurd h.2
  load-outcome TableFull h = absurd h.2

  done-now : (seen : Bool) → IsDone words tells failed failed_now taken taken_now faults faults_now seen → Outcome words tells failed failed_now taken taken_now faults faults_now OutOfMemory
  done-now seen h = inr (h.0, h.1, tt, (h.2.0, h.2.1, done-memory h.2.0 taken taken_now seen faults faults_now h.2.2))

  -- want of memory may come in place of each
  no-memory : (status : Status) → Outcome words tells failed failed_now taken taken_now faults faults_now status → Outcome words tells failed failed_now taken taken_now faults faults_now OutOfMemory
  no-memory (FileFault name) h = inl h.3
  no-memory (Refused name NotJson) h = inl h.3
  no-memory (Refused name (BadShape path)) h = inl h.3
  no-memory (Refused name NotYet) h = inl h.3
  no-memory (Refused name TooManyRules) h = inl h.3
  no-memory (Refused name (BadPlace line)) h = inr (h.0, h.1, tt, (h.3.0, h.3.1, place-memory h.3.0 taken taken_now faults faults_now line h.3.2))
  no-memory OutOfMemory h = h
  no-memory Usage h = inl h.1
  no-memory SinkFault h = inr (h.0, h.1, tt, (h.3.0, h.3.1, sink-memory h.3.0 taken taken_now faults faults_now h.3.2))
  no-memory TableFull h = inr (h.0, h.1, tt, (h.3.0, h.3.1, full-memory h.3.0 taken taken_now faults faults_now h.3.2))
  no-memory Ok h = done-now false h
  no-memory BudgetSeen h = done-now true h

  pub keeps-outcome : (old new : Status) → Keeps old new → Outcome words tells failed failed_now taken taken_now faults faults_now old → Outcome words tells failed failed_now taken taken_now faults faults_now new
  keeps-outcome old new (inl e) h = let P : Status → Type 0 = λ s. Outcome words tells failed failed_now taken taken_now faults faults_now s in subst P (sym e) h
  keeps-outcome old new (inr e) h = let P : Status → Type 0 = λ s. Outcome words tells failed failed_now taken taken_now faults faults_now s in subst P (sym e) (no-memory old h)

  -- a bad place is told of the script
  pub place-outcome : (names : Names) (setup : SetupData) (script : List ℕ) (line : ℕ) (status : Status) → names.script ≡ Some script → IsCommand words (Run names) → IsSetupLoaded (where_told tells) names setup → SetupStops setup taken taken_now faults faults_now (fault.BadPlace line) → IsBadPlace script line status →
      Outcome words tells failed failed_now taken taken_now faults faults_now status
  place-outcome names setup script line (Refused name what) named command loaded stop is =
      let P : What → Type 0 = λ w. Outcome words tells failed failed_now taken taken_now faults faults_now (Refused name w) in
      subst P (sym is.1) (Run names, command, (script, named, is.0), (Played setup, loaded, stop))
  place-outcome names setup script line OutOfMemory named command loaded stop is =
      inr (Run names, command, tt, (Played setup, loaded, place-memory (Played setup) taken taken_now faults faults_now line stop))
  place-outcome names setup script line Ok named command loaded stop is = absurd is
  place-outcome names setup script line Usage named command loaded stop is = absurd is
  place-outcome names setup script line (FileFault name) named command loaded stop is = absurd is
  place-outcome names setup script line SinkFault named command loaded stop is = absurd is
  place-outcome names setup script line BudgetSeen named command loaded stop is = absurd is
  place-outcome names setup script line TableFull named command loaded stop is = absurd is

-- a scan has no edit, so no place of it is bad
pub scan-has-no-place : (settings text : List ℕ) (script : Option (List ℕ)) (tells : List ℕ → Option (List ℕ)) (setup : SetupData) (taken taken_now : Option (List ℕ)) (faults faults_now line : ℕ) →
    IsSetupLoaded (where_told tells) (record { settings = settings; text = text; script = script }) setup → script ≡ None → SetupStops setup taken taken_now faults faults_now (fault.BadPlace line) → ⊥
scan-has-no-place settings text script tells setup taken taken_now faults faults_now line loaded none stop =
    let G : Option (List ℕ) → Type 0 = λ o. GivesScript (where_told tells) o setup.script in
    let steps : setup.script ≡ scan_steps = subst G none loaded.script in
    let P : List Scripted → Type 0 = λ l. slice_get l stop.0 ≡ Some stop.2.0 in
    no-edit stop.0 stop.2.0 stop.2.2.0 (subst P steps stop.2.1) stop.2.2.1
  where
    no-edit : (k : ℕ) (x : Scripted) (change : Change) → slice_get scan_steps k ≡ Some x → x.step ≡ Core (Edit change) → ⊥
    no-edit zero x change at is = cc
    no-edit (suc zero) x change at is = cc
    no-edit (suc (suc k)) x change at is = cc
