-- What contracts see of a model: a document, at a version that has a next one, or the last.
use Rattle.std.specs.Prelude.{◌≡◌, ℕ, ◌<◌, ◌≤◌, List, length, ⊤}
use Rattle.tm_defs.specs.declared.changes.Change.{Change}
use Rattle.tm_defs.specs.declared.changes.ChangeFault.{ChangeFault}
use Rattle.tm_defs.specs.declared.changes.ChangeFault.TheVariants as change
use Rattle.tm_defs.specs.declared.frames.FrameData.{FrameData}
use Rattle.tm_defs.specs.Tables.{TableEntries}
use Rattle.tm_defs.specs.Tokenizer.{Tokenized}
pub use Rattle.tm_document.specs.Held.{Held, document, held_rules, setting_now}
use Rattle.tm_document.specs.Held.{new_held, changed_held, set_held}
use Rattle.tm_machine.specs.Documents.{last_version}
use Rattle.tm_machine.specs.Entries.{AreRight}
use Rattle.tm_machine.specs.Turns.{opening}
use Rattle.tm_text.specs.Texts.{IsChangeFault}

-- no line has been done
abbrev pub new_model : {T : Type 0} → List T → (budget limit : ℕ) → List (List ℕ) → Held T
new_model settings budget limit lines = new_held settings budget limit lines

-- the text and the entries behind a change
abbrev pub changed_model : {T : Type 0} → Held T → Change → Held T
changed_model held c = changed_held held c

-- by another setting nothing is known of a line
abbrev pub set_model : {T : Type 0} → Held T → (number : ℕ) → Held T
set_model held number = set_held held number

-- why a change is refused: the version is looked at first, then what the text says
abbrev pub IsChangeCause : {T : Type 0} → Held T → Change → ChangeFault → Type 0
IsChangeCause held c (change.VersionFull version) = (version ≡ held.version) × (held.version ≡ last_version)
IsChangeCause held c (change.BadPlace place) = (held.version < last_version) × IsChangeFault held.lines c (change.BadPlace place)
IsChangeCause held c (change.TextFull count) = (held.version < last_version) × IsChangeFault held.lines c (change.TextFull count)
IsChangeCause held c change.OutOfMemory = ⊤

module _ {T P : Type 0} (plain : T → P) (tokenized : P → List FrameData → List ℕ → Tokenized) (plain_cost : P → List FrameData → List ℕ → ℕ) (entries_made : P → List FrameData → List ℕ → TableEntries) where
  -- what every model keeps: each entry is right by the setting of the epoch
  pub record IsSound (held : Held T) : Type 0 where
    pub epoch : held.epoch < length held.settings
    pub lengths : length held.entries ≡ length held.lines
    pub version : held.version ≤ last_version
    pub right : AreRight (setting_now plain tokenized plain_cost entries_made held) held.budget opening held.lines held.entries
