-- The document that a model or a worker keeps, which has no births, and what the steps on one text do to it.
use Rattle.std.specs.Prelude.{◌≡◌, ◌⊎◌, ℕ, suc, ◌<◌, ◌≤◌, ◌-◌, ◌^◌, List, length, replicate, Option, None, ⊤}
use Rattle.tm_defs.specs.declared.changes.Change.{Change}
use Rattle.tm_defs.specs.declared.events.Step.{Step}
use Rattle.tm_defs.specs.declared.events.Step.TheVariants as step
use Rattle.tm_defs.specs.declared.events.Turn.{Turn}
use Rattle.tm_defs.specs.declared.frames.FrameData.{FrameData}
use Rattle.tm_machine.specs.declared.entries.Entry.{Entry}
use Rattle.tm_machine.specs.Accepts.{Counts}
use Rattle.tm_machine.specs.Changes.{effect_of, lines_changed}
use Rattle.tm_machine.specs.Entries.{blank, replaced, AreRight}
use Rattle.tm_machine.specs.Places.{IsIn}
use Rattle.tm_machine.specs.Scratch.{Tokenizing}
use Rattle.tm_machine.specs.Sizes.{Fits}
use Rattle.tm_machine.specs.Turns.{Turns, DoesLines, Forces, opening}

-- what each setting makes of lines, how many settings there are, and the budget of a line
pub record Rules : Type 0 where
  pub setting : ℕ → Tokenizing
  pub settings : ℕ
  pub budget : ℕ

-- lines, how many changes made them, the number of their setting, and what is kept of them
pub record Document : Type 0 where
  pub lines : List (List ℕ)
  pub version : ℕ
  pub epoch : ℕ
  pub entries : List (Entry (List FrameData))

abbrev pub last_version : ℕ
last_version = 2 ^ 31 - 1

-- nothing is known of any line
abbrev pub blank_entries : List (List ℕ) → List (Entry (List FrameData))
blank_entries lines = replicate (length lines) (blank None)

abbrev pub new_document : List (List ℕ) → Document
new_document lines = record { lines = lines; version = 0; epoch = 0; entries = blank_entries lines }

-- behind a change the new lines are blank, but the last of them has the end of the last replaced line
abbrev pub edited : Document → Change → Document
edited d c = record { lines = lines_changed d.lines c; version = suc d.version; epoch = d.epoch; entries = replaced (effect_of d.lines c) d.entries }

-- another setting takes over, and nothing is known of any line
abbrev pub reset : Document → (number : ℕ) → Document
reset d number = record d { epoch = number; entries = blank_entries d.lines }

abbrev pub with_entries : Document → List (Entry (List FrameData)) → Document
with_entries d es = record d { entries = es }

-- what is kept is right by the setting of the epoch
abbrev pub HasRightEntries : Rules → Document → Type 0
HasRightEntries r d = AreRight (r.setting d.epoch) r.budget opening d.lines d.entries

-- why a step is refused: no such place, line or setting; too many characters; the last version; a full table; want of memory
pub data Refusal : Type 0 where
  BadPlace : Refusal
  TextFull : Refusal
  VersionFull : (version : ℕ) → Refusal
  TableFull : (count : ℕ) → Refusal
  OutOfMemory : Refusal

-- what is answered to a step
pub data Answer : Type 0 where
  Edited : (version : ℕ) → Answer
  Set : Answer
  Lined : (turn : Turn) → Answer
  Forced : (done : ℕ) (blocked : Option ℕ) → Answer
  Nothing : Answer
  Drained : Answer
  Worked : (turn : Turn) → Answer
  Posted : (count : ℕ) → Answer
  Used : (counts : Counts) → Answer
  OtherEpoch : (batch model : ℕ) → Answer
  Refused : (why : Refusal) → Answer

pub record CanEdit (d : Document) (c : Change) : Type 0 where
  pub below_last : d.version < last_version
  pub within : IsIn d.lines c
  pub fits : Fits (lines_changed d.lines c)

-- the version is looked at first, then the places, then the size
abbrev pub IsEditRefusal : Document → Change → Refusal → Type 0
IsEditRefusal d c (VersionFull version) = (d.version ≡ last_version) × (version ≡ d.version)
IsEditRefusal d c BadPlace = (d.version < last_version) × ¬ (IsIn d.lines c)
IsEditRefusal d c TextFull = (d.version < last_version) × IsIn d.lines c × ¬ (Fits (lines_changed d.lines c))
IsEditRefusal d c (TableFull count) = ⊥
IsEditRefusal d c OutOfMemory = ⊤

abbrev pub IsSettingRefusal : Rules → (number : ℕ) → Refusal → Type 0
IsSettingRefusal r number BadPlace = r.settings ≤ number
IsSettingRefusal r number OutOfMemory = ⊤
IsSettingRefusal r number _ = ⊥

-- where states are numbered; when a table may be full is said of what is reached
abbrev pub IsTableRefusal : Refusal → Type 0
IsTableRefusal (TableFull count) = ⊤
IsTableRefusal OutOfMemory = ⊤
IsTableRefusal _ = ⊥

abbrev pub IsMemoryRefusal : Refusal → Type 0
IsMemoryRefusal OutOfMemory = ⊤
IsMemoryRefusal _ = ⊥

-- a run of lines up to the last one is refused behind those that it did
abbrev pub StopsWithin : Rules → Document → (last : ℕ) → Refusal → Document → Type 0
StopsWithin r d last why n =
    IsTableRefusal why × ((done : List ℕ) × (es : List (Entry (List FrameData))) × DoesLines (r.setting d.epoch) r.budget d.lines last d.entries done es × (n ≡ with_entries d es))

-- turns up to the last line
abbrev pub RunsTo : Rules → Document → (last done : ℕ) → (blocked : Option ℕ) → Document → Type 0
RunsTo r d last done blocked n = (es : List (Entry (List FrameData))) × Forces (r.setting d.epoch) r.budget d.lines last d.entries done blocked es × (n ≡ with_entries d es)

-- one step on a text: to d it may answer so and lead to n
abbrev pub DocumentSteps : Rules → Document → Step → Answer → Document → Type 0
DocumentSteps r d (step.Edit c) (Edited version) n = CanEdit d c × (version ≡ suc d.version) × (n ≡ edited d c)
DocumentSteps r d (step.Edit c) (Refused why) n = IsEditRefusal d c why × (n ≡ d)
DocumentSteps r d (step.Setting number) Set n = (number < r.settings) × (n ≡ reset d number)
DocumentSteps r d (step.Setting number) (Refused why) n = IsSettingRefusal r number why × (n ≡ d)
DocumentSteps r d step.Line (Lined turn) n = (es : List (Entry (List FrameData))) × Turns (r.setting d.epoch) r.budget d.lines d.entries turn es × (n ≡ with_entries d es)
DocumentSteps r d step.Line (Refused why) n = IsTableRefusal why × (n ≡ d)
DocumentSteps r d (step.Force line) (Forced done blocked) n = (line < length d.lines) × RunsTo r d line done blocked n
DocumentSteps r d (step.Force line) (Refused why) n = ((length d.lines ≤ line) × (why ≡ BadPlace) × (n ≡ d)) ⊎ ((line < length d.lines) × StopsWithin r d line why n)
DocumentSteps r d step.Settle (Forced done blocked) n = RunsTo r d (length d.lines - 1) done blocked n
DocumentSteps r d step.Settle (Refused why) n = StopsWithin r d (length d.lines - 1) why n
DocumentSteps r d _ _ n = ⊥
