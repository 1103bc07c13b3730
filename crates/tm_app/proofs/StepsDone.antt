-- A step of the model that is done, or stops, and what it wrote.
use Rattle.std.proofs.Common.{◌≡◌, ℕ, ◌++◌, ◌-◌, List, [], length, Bool, false, Option, sym, subst}
use Rattle.std.specs.Prelude.{is_some}
use Rattle.tm_defs.specs.declared.changes.Change.{Change}
use Rattle.tm_defs.specs.declared.events.Step.TheVariants as step
use Rattle.tm_defs.specs.declared.events.Turn.{Turn}
use Rattle.tm_defs.specs.declared.frames.FrameData.{FrameData}
use Rattle.tm_defs.specs.declared.tables.TableFault.TheVariants as table
use Rattle.tm_defs.specs.Tables.{TableEntries, IsNumbering}
use Rattle.tm_defs.specs.Tokenizer.{Tokenized}
use Rattle.tm_forms.specs.declared.script.ScriptStep.TheVariants.{Core, SettleQuietly, Show}
use Rattle.tm_forms.specs.declared.script.Scripted.{Scripted}
use Rattle.tm_machine.specs.Entries.{AreRight, AreAccurate}
use Rattle.tm_machine.specs.Documents.{Rules, CanEdit}
use Rattle.tm_machine.specs.Machine.{Machine}
use Rattle.tm_machine.specs.Turns.{Turns, Forces, opening}
use Rattle.tm_machine.specs.Reach.{GrowsByLines}
use Rattle.tm_machine.specs.Scratch.{Tokenizing}
use Rattle.tm_model.specs.Held.{Held, document, setting_now, changed_model}
use Rattle.tm_machine.specs.Numbered.{GrowsAtFront, IsTurnCause}
use Rattle.tm_outside.specs.Causes.{Takes, TakesFront}
use Rattle.tm_app.specs.declared.play.Fault.{Fault}
use Rattle.tm_app.specs.declared.play.Fault.TheVariants.{TableFull}
use Rattle.tm_app.specs.Play.{Prints}
use Rattle.tm_app.specs.Printed.{turn_text, tells_of, work_text, blocked_text, shown}
use Rattle.tm_app.specs.inner.Stands.{Tells, Stands, StepDone, StepStopped}
use Rattle.tm_app.specs.Stops.{IsWriteStop}
use Rattle.tm_app.proofs.PlayRuns.{takes-none, write-stops}
use Rattle.tm_app.proofs.StandSteps.{line-prints, line-reached, settle-prints, quiet-prints, lines-reached, full-reached, edit-prints, edit-reached, show-prints}
use Rattle.tm_app.proofs.Tells.{nothing-tells, both-tell, tells-as, turn-tells, work-tells, blocked-tells, shown-tells}

module _ {T P : Type 0} (plain : T → P) (tokenized : P → List FrameData → List ℕ → Tokenized) (plain_cost : P → List FrameData → List ℕ → ℕ) (entries_made : P → List FrameData → List ℕ → TableEntries) where
  abbrev Now : Held T → Tokenizing
  Now held = setting_now plain tokenized plain_cost entries_made held

  -- from each machine that the model stands for the step may print these bytes
  abbrev CanPrint : Held T → Scripted → List ℕ → Held T → Type 0
  CanPrint old x bytes new =
      (r : Rules) (m : Machine) → Stands plain tokenized plain_cost entries_made r old m → (n : Machine) × Prints r m x.step bytes n × Stands plain tokenized plain_cost entries_made r new n

  -- a text that a step prints was not written whole
  stops : (old new : Held T) (x : Scripted) (bytes : List ℕ) (a b : Option (List ℕ)) (f g : ℕ) (fault : Fault) → CanPrint old x bytes new → IsWriteStop (TakesFront a b bytes) f g fault → StepStopped plain tokenized plain_cost entries_made old x a b f g fault
  stops old new x bytes a b f g fault prints h = λ r m past s there reached.
      let did = prints r m s in write-stops r m did.0 past x bytes a b f g fault did.1 h

  module _ (old new : Held T) (x : Scripted) (a b : Option (List ℕ)) (right : AreRight (Now old) old.budget opening old.lines old.entries) (others : new ≡ record old { entries = new.entries; tables = new.tables }) where
    pub line-done : (turn : Turn) (seen : Bool) (bytes : List ℕ) → seen ≡ tells_of turn → x.step ≡ Core step.Line → Turns (Now old) old.budget old.lines old.entries turn new.entries → GrowsAtFront (Now old) old.lines old.entries old.tables new.tables → bytes ≡ turn_text turn → Takes a b bytes →
        StepDone plain tokenized plain_cost entries_made old x new a b seen
    line-done turn seen bytes told is turns grows text took = λ r m past s there reached.
        let did = line-prints plain tokenized plain_cost entries_made old new x turn bytes is others turns text r m s in
        let P : List ℕ → Type 0 = λ l. Tells l seen in
        (bytes, did.0, did.1, did.2, line-reached plain tokenized plain_cost entries_made old right r m past s there new grows reached, took, subst P (sym text) (tells-as (turn_text turn) (tells_of turn) seen told (turn-tells turn)))

    pub line-stops : (turn : Turn) (bytes : List ℕ) (f g : ℕ) (fault : Fault) → x.step ≡ Core step.Line → Turns (Now old) old.budget old.lines old.entries turn new.entries → bytes ≡ turn_text turn → IsWriteStop (TakesFront a b bytes) f g fault →
        StepStopped plain tokenized plain_cost entries_made old x a b f g fault
    line-stops turn bytes f g fault is turns text h = stops old new x bytes a b f g fault (line-prints plain tokenized plain_cost entries_made old new x turn bytes is others turns text) h

    module _ (done : ℕ) (blocked : Option ℕ) (forces : Forces (Now old) old.budget old.lines (length old.lines - 1) old.entries done blocked new.entries) where
      pub settle-done : (seen : Bool) → seen ≡ is_some blocked → x.step ≡ Core step.Settle → GrowsByLines (Now old) old.lines old.tables new.tables → Takes a b (work_text done ++ blocked_text blocked) → StepDone plain tokenized plain_cost entries_made old x new a b seen
      settle-done seen told is grows took = λ r m past s there reached.
          let did = settle-prints plain tokenized plain_cost entries_made old new x done blocked is others forces r m s in
          (work_text done ++ blocked_text blocked, did.0, did.1, did.2, lines-reached plain tokenized plain_cost entries_made old right r m past s there new grows reached, took, tells-as (work_text done ++ blocked_text blocked) (is_some blocked) seen told (both-tell (work_text done) (blocked_text blocked) false (is_some blocked) (work-tells done) (blocked-tells blocked)))

      pub settle-stops : (f g : ℕ) (fault : Fault) → x.step ≡ Core step.Settle → IsWriteStop (TakesFront a b (work_text done ++ blocked_text blocked)) f g fault → StepStopped plain tokenized plain_cost entries_made old x a b f g fault
      settle-stops f g fault is h = stops old new x (work_text done ++ blocked_text blocked) a b f g fault (settle-prints plain tokenized plain_cost entries_made old new x done blocked is others forces) h

      pub quiet-done : (seen : Bool) → seen ≡ is_some blocked → x.step ≡ SettleQuietly → GrowsByLines (Now old) old.lines old.tables new.tables → Takes a b (blocked_text blocked) → StepDone plain tokenized plain_cost entries_made old x new a b seen
      quiet-done seen told is grows took = λ r m past s there reached.
          let did = quiet-prints plain tokenized plain_cost entries_made old new x done blocked is others forces r m s in
          (blocked_text blocked, did.0, did.1, did.2, lines-reached plain tokenized plain_cost entries_made old right r m past s there new grows reached, took, tells-as (blocked_text blocked) (is_some blocked) seen told (blocked-tells blocked))

      pub quiet-stops : (f g : ℕ) (fault : Fault) → x.step ≡ SettleQuietly → IsWriteStop (TakesFront a b (blocked_text blocked)) f g fault → StepStopped plain tokenized plain_cost entries_made old x a b f g fault
      quiet-stops f g fault is h = stops old new x (blocked_text blocked) a b f g fault (quiet-prints plain tokenized plain_cost entries_made old new x done blocked is others forces) h

    -- a table is full
    pub line-full : (n f g : ℕ) → IsNumbering new.tables → GrowsAtFront (Now old) old.lines old.entries old.tables new.tables → IsTurnCause (Now old) old.lines old.entries new.tables (table.TableFull n) →
        StepStopped plain tokenized plain_cost entries_made old x a a f g TableFull
    line-full n f g num grows cause = λ r m past s there reached.
        (full-reached plain tokenized plain_cost entries_made old right r m past s there new old.entries n num (line-reached plain tokenized plain_cost entries_made old right r m past s there new grows reached) cause, takes-none a)

    pub settle-full : (n f g : ℕ) → IsNumbering new.tables → GrowsByLines (Now old) old.lines old.tables new.tables → IsTurnCause (Now old) old.lines new.entries new.tables (table.TableFull n) →
        StepStopped plain tokenized plain_cost entries_made old x a a f g TableFull
    settle-full n f g num grows cause = λ r m past s there reached.
        (full-reached plain tokenized plain_cost entries_made old right r m past s there new new.entries n num (lines-reached plain tokenized plain_cost entries_made old right r m past s there new grows reached) cause, takes-none a)

  pub edit-done : (old new : Held T) (x : Scripted) (c : Change) (a : Option (List ℕ)) → x.step ≡ Core (step.Edit c) → CanEdit (document old) c → new ≡ changed_model old c → StepDone plain tokenized plain_cost entries_made old x new a a false
  edit-done old new x c a is can same = λ r m past s there reached.
      let did = edit-prints plain tokenized plain_cost entries_made old new x c is can same r m s in
      ([], did.0, did.1, did.2, edit-reached plain tokenized plain_cost entries_made old new c same r past reached, takes-none a, nothing-tells)

  pub show-done : (held : Held T) (x : Scripted) (a b : Option (List ℕ)) → x.step ≡ Show → AreAccurate (Now held) held.lines held.entries → Takes a b (shown held.entries) → StepDone plain tokenized plain_cost entries_made held x held a b false
  show-done held x a b is accurate took = λ r m past s there reached.
      (shown held.entries, m, show-prints plain tokenized plain_cost entries_made held x is accurate r m s, s, reached, took, shown-tells held.entries)

  pub show-stopped : (held : Held T) (x : Scripted) (a b : Option (List ℕ)) (f g : ℕ) (fault : Fault) → x.step ≡ Show → AreAccurate (Now held) held.lines held.entries → IsWriteStop (TakesFront a b (shown held.entries)) f g fault → StepStopped plain tokenized plain_cost entries_made held x a b f g fault
  show-stopped held x a b f g fault is accurate h = λ r m past s there reached.
      write-stops r m m past x (shown held.entries) a b f g fault (show-prints plain tokenized plain_cost entries_made held x is accurate r m s) h
