-- The difference of two states.
use Rattle.std.specs.Prelude.{◌≡◌, ℕ, ◌-◌, ◌<◌, ◌++◌, List, length, take, Result, Err, ⊤}
use Rattle.tm_defs.specs.declared.frames.FrameData.{FrameData}
use Rattle.tm_defs.specs.declared.frames.Delta.{Delta}
use Rattle.tm_defs.specs.Tables.{Tables}
use Rattle.tm_scope.specs.Entries.{LacksEntryAt}
use Rattle.tm_defs.specs.declared.frames.StateId.{StateId}
use Rattle.tm_state.specs.Entries.{state_entries, BeginsWith}
use Rattle.tm_state.specs.declared.deltas.DeltaFault.{DeltaFault}
use Rattle.tm_state.specs.declared.deltas.DeltaFault.TheVariants.{BadDelta, TableFull, OutOfMemory}

-- the delta takes away what is behind the longest common front, and adds what is behind it in the other state
pub record IsDifference (from to : List FrameData) (delta : Delta) : Type 0 where
  pub kept : List FrameData
  pub dropped : List FrameData
  pub from_is : from ≡ kept ++ dropped
  pub pops : delta.pops ≡ length dropped
  pub to_is : to ≡ kept ++ delta.pushed
  pub longest : (front : List FrameData) → BeginsWith from front → BeginsWith to front → BeginsWith kept front

-- the state without its innermost frames, and then those that are pushed
abbrev pub applied : List FrameData → Delta → List FrameData
applied state delta = take (length state - delta.pops) state ++ delta.pushed

-- the delta was refused for its number of frames
abbrev pub IsBadDelta : List FrameData → Delta → Result StateId DeltaFault → Type 0
IsBadDelta state delta result = result ≡ Err (BadDelta delta.pops (length state))

-- why a delta was refused
abbrev pub IsDeltaFault : ℕ → List FrameData → Delta → Tables → DeltaFault → Type 0
IsDeltaFault limit state delta t (BadDelta pops depth) = (pops ≡ delta.pops) × (depth ≡ length state) × (depth < pops)
IsDeltaFault limit state delta t (TableFull n) = (n ≡ limit) × LacksEntryAt limit (state_entries (applied state delta)) t
IsDeltaFault limit state delta t OutOfMemory = ⊤
