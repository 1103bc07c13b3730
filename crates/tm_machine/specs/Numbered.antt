-- Entries by the numbers of their ends, read with the table of these numbers, and what a turn on them adds to it.
use Rattle.std.specs.Prelude.{◌≡◌, ℕ, ◌<◌, ◌⊎◌, List, Option, Some, None, ⊤}
use Rattle.std.specs.Option.{option_map}
use Rattle.std.specs.List.{AllByRecursion}
use Rattle.tm_defs.specs.declared.frames.FrameData.{FrameData}
use Rattle.tm_defs.specs.declared.frames.StateId.{StateId}
use Rattle.tm_defs.specs.declared.tables.TableFault.{TableFault}
use Rattle.tm_defs.specs.declared.tables.TableFault.TheVariants.{TableFull, OutOfMemory}
use Rattle.tm_defs.specs.Tables.{Tables, GrowsWithin, LacksEntry, state_at}
use Rattle.tm_machine.specs.declared.entries.Entry.{Entry}
use Rattle.tm_machine.specs.Turns.{IsReady}
use Rattle.tm_machine.specs.Scratch.{Tokenizing}

-- an entry with the state that its number stands for
abbrev pub with_state : Tables → Entry StateId → Entry (List FrameData)
with_state t e = record { tokens = e.tokens; end = option_map (state_at t) e.end; good = e.good; blocked = e.blocked }

abbrev pub IsKnownEnd : ℕ → Option StateId → Type 0
IsKnownEnd count None = ⊤
IsKnownEnd count (Some id) = id.0 < count

-- each end is a number of the table
abbrev pub AreKnown : ℕ → List (Entry StateId) → Type 0
AreKnown count es = AllByRecursion (λ e. IsKnownEnd count e.end) es

-- the tables gain nothing outside what the front line makes, and nothing where no line is done
abbrev pub GrowsAtFront : Tokenizing → List (List ℕ) → List (Entry (List FrameData)) → Tables → Tables → Type 0
GrowsAtFront k lines es old new =
    (new ≡ old) ⊎ ((i : ℕ) × (start : List FrameData) × (line : List ℕ) × IsReady lines es i start line × GrowsWithin (k.entries_made start line) old new)

-- why a turn is refused
abbrev pub IsTurnCause : Tokenizing → List (List ℕ) → List (Entry (List FrameData)) → Tables → TableFault → Type 0
IsTurnCause k lines es now (TableFull n) = (i : ℕ) × (start : List FrameData) × (line : List ℕ) × IsReady lines es i start line × LacksEntry n (k.entries_made start line) now
IsTurnCause k lines es now OutOfMemory = ⊤
