-- What the steps of a script do and print.
use Rattle.std.specs.Prelude.{◌≡◌, ℕ, List, [], ◌∷◌, ◌++◌}
use Rattle.tm_defs.specs.declared.events.Step.{Step}
use Rattle.tm_defs.specs.declared.events.Step.TheVariants as step
use Rattle.tm_forms.specs.declared.script.ScriptStep.{ScriptStep}
use Rattle.tm_forms.specs.declared.script.ScriptStep.TheVariants.{Core, SettleQuietly, Show}
use Rattle.tm_forms.specs.declared.script.Scripted.{Scripted}
use Rattle.tm_machine.specs.Documents.{Rules, Answer, Edited, Lined, Forced}
use Rattle.tm_machine.specs.Machine.{Machine, ForeSteps, IsAccurate}
use Rattle.tm_app.specs.Printed.{answer_text, quiet_text, shown}

-- an edit, a line or a settle that is done, as a step of the machine
abbrev pub Acts : Rules → Machine → Step → Answer → Machine → Type 0
Acts r m (step.Edit c) (Edited version) n = ForeSteps r m (step.Edit c) (Edited version) n
Acts r m step.Line (Lined turn) n = ForeSteps r m step.Line (Lined turn) n
Acts r m step.Settle (Forced done blocked) n = ForeSteps r m step.Settle (Forced done blocked) n
Acts r m _ _ n = ⊥

-- from m a step may print these bytes and lead to n. What a show prints is accurate: each line marked
-- `=` is what tokenizing the text from its first line gives, and all lines are where none is invalid
abbrev pub Prints : Rules → Machine → ScriptStep → List ℕ → Machine → Type 0
Prints r m (Core step) bytes n = (answer : Answer) × Acts r m step answer n × (bytes ≡ answer_text answer)
Prints r m SettleQuietly bytes n = (answer : Answer) × Acts r m step.Settle answer n × (bytes ≡ quiet_text answer)
Prints r m Show bytes n = (n ≡ m) × (bytes ≡ shown m.fore.entries) × IsAccurate r m

abbrev pub step_of : ScriptStep → List Step
step_of (Core step) = step ∷ []
step_of SettleQuietly = step.Settle ∷ []
step_of Show = []

-- the steps of the machine among those of a script
abbrev pub machine_steps : List Scripted → List Step
machine_steps [] = []
machine_steps (x ∷ xs) = step_of x.step ++ machine_steps xs

-- steps, one after another
abbrev pub Plays : Rules → Machine → List Scripted → List ℕ → Machine → Type 0
Plays r m [] bytes n = (bytes ≡ []) × (n ≡ m)
Plays r m (x ∷ xs) bytes n =
    (mid : Machine) × (front : List ℕ) × (rest : List ℕ) × (bytes ≡ front ++ rest) × Prints r m x.step front mid × Plays r mid xs rest n
