-- What contracts see of a document: its text and what is kept of it, with states in place of their numbers.
use Rattle.std.specs.Prelude.{◌≡◌, ℕ, suc, ◌<◌, List, [], ◌∷◌, length, map}
use Rattle.tm_defs.specs.declared.changes.Change.{Change}
use Rattle.tm_defs.specs.declared.frames.FrameData.{FrameData}
use Rattle.tm_defs.specs.Tables.{Tables, TableEntries}
use Rattle.tm_defs.specs.Tokenizer.{Tokenized}
use Rattle.tm_machine.specs.declared.entries.Entry.{Entry}
use Rattle.tm_machine.specs.Changes.{effect_of, lines_changed}
use Rattle.tm_machine.specs.Documents.{Document, Rules, blank_entries}
use Rattle.tm_machine.specs.Entries.{replaced, AreRight}
use Rattle.tm_machine.specs.Scratch.{Tokenizing}
use Rattle.tm_machine.specs.Settings.{rules_of}
use Rattle.tm_machine.specs.Turns.{opening}
use Rattle.tm_document.specs.Kept.{Kept}

pub record Held (T : Type 0) : Type 0 where
  pub settings : List T
  pub epoch : ℕ
  pub version : ℕ
  pub budget : ℕ
  pub lines : List (List ℕ)
  pub entries : List (Entry (List FrameData))
  pub tables : Tables

-- as the machine's steps speak of it
abbrev pub document : {T : Type 0} → Held T → Document
document held = record { lines = held.lines; version = held.version; epoch = held.epoch; entries = held.entries }

abbrev pub held_of : {T : Type 0} → List T → (epoch version budget : ℕ) → List (List ℕ) → Kept → Held T
held_of settings epoch version budget lines kept =
    record { settings = settings; epoch = epoch; version = version; budget = budget; lines = lines; entries = kept.entries; tables = kept.tables }

-- no line has been done
abbrev pub new_held : {T : Type 0} → List T → (budget limit : ℕ) → List (List ℕ) → Held T
new_held settings budget limit lines = record {
  settings = settings;
  epoch = 0;
  version = 0;
  budget = budget;
  lines = lines;
  entries = blank_entries lines;
  tables = record { texts = []; paths = [] ∷ []; states = [] ∷ []; limit = limit };
}

-- the text and the entries behind a change
abbrev pub changed_held : {T : Type 0} → Held T → Change → Held T
changed_held held c = record held { version = suc held.version; lines = lines_changed held.lines c; entries = replaced (effect_of held.lines c) held.entries }

-- by another setting nothing is known of a line
abbrev pub set_held : {T : Type 0} → Held T → (number : ℕ) → Held T
set_held held number = record held { epoch = number; entries = blank_entries held.lines }

module _ {T P : Type 0} (plain : T → P) (tokenized : P → List FrameData → List ℕ → Tokenized) (plain_cost : P → List FrameData → List ℕ → ℕ) (entries_made : P → List FrameData → List ℕ → TableEntries) where
  abbrev pub held_rules : Held T → Rules
  held_rules held = rules_of tokenized plain_cost entries_made (map plain held.settings) held.budget

  -- the setting of the epoch
  abbrev pub setting_now : Held T → Tokenizing
  setting_now held = (held_rules held).setting held.epoch

  -- what every document keeps: each entry is right by the setting of the epoch
  pub record IsSoundHeld (held : Held T) : Type 0 where
    pub epoch : held.epoch < length held.settings
    pub lengths : length held.entries ≡ length held.lines
    pub right : AreRight (setting_now held) held.budget opening held.lines held.entries
