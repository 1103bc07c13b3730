-- What is kept of lines by the numbers of their ends, as contracts see it.
use Rattle.std.specs.Prelude.{List, map}
use Rattle.tm_defs.specs.declared.frames.FrameData.{FrameData}
use Rattle.tm_defs.specs.declared.frames.StateId.{StateId}
use Rattle.tm_defs.specs.Tables.{Tables}
use Rattle.tm_machine.specs.declared.entries.Entry.{Entry}
use Rattle.tm_machine.specs.Numbered.{with_state}

-- the entries with states in place of their numbers, and the tables of the numbers
pub record Kept : Type 0 where
  pub entries : List (Entry (List FrameData))
  pub tables : Tables

abbrev pub kept_of : List (Entry StateId) → Tables → Kept
kept_of es t = record { entries = map (with_state t) es; tables = t }
