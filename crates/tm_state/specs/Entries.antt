-- What a state needs in a table.
use Rattle.std.specs.Prelude.{◌≡◌, ℕ, ◌++◌, ◌<◌, ◌≤◌, List, [], ◌∷◌, Option, length, Contains, slice_index_or}
use Rattle.std.specs.Option.{option_to_list}
use Rattle.std.specs.List.{flat_map}
use Rattle.tm_defs.specs.declared.frames.FrameData.{FrameData}
use Rattle.tm_defs.specs.Tables.{Tables, TableEntries, GrowsWithin}
use Rattle.tm_scope.specs.Entries.{fronts, HasEntries, HasPathEntries, KeepsLimits}

-- the texts of a frame: that of its end, and its names
abbrev pub frame_texts : FrameData → List (List ℕ)
frame_texts f = option_to_list f.end ++ (f.names ++ f.contents)

-- the scope lists of a frame, with their fronts
abbrev pub frame_paths : FrameData → List (List (List ℕ))
frame_paths f = fronts f.names ++ fronts f.contents

abbrev pub end_entries : Option (List ℕ) → TableEntries
end_entries end = record { texts = option_to_list end; paths = []; states = [] }

abbrev pub frame_entries : FrameData → TableEntries
frame_entries f = record { texts = frame_texts f; paths = frame_paths f; states = [] }

abbrev pub frame_and_state : FrameData → List FrameData → TableEntries
frame_and_state f state = record { texts = frame_texts f; paths = frame_paths f; states = state ∷ [] }

-- what its frames need, and its fronts, the state itself among them
abbrev pub state_entries : List FrameData → TableEntries
state_entries state = record { texts = flat_map frame_texts state; paths = flat_map frame_paths state; states = fronts state }

-- with a state or a scope list, all that it needs is there
pub record IsClosed (t : Tables) : Type 0 where
  pub paths : HasPathEntries t
  pub states : (state : List FrameData) → Contains t.states state → HasEntries (state_entries state) t

-- the list begins with the other
abbrev pub BeginsWith : {X : Type 0} → List X → List X → Type 0
BeginsWith {X} whole front = (rest : List X) × (whole ≡ front ++ rest)

-- a state with which another begins has no higher number
abbrev pub FrontsComeFirst : Tables → Type 0
FrontsComeFirst t = (front whole : ℕ) → front < length t.states → whole < length t.states →
    BeginsWith (slice_index_or t.states whole []) (slice_index_or t.states front []) → front ≤ whole

-- the table may grow by these alone until it has them all, and keep the limit
pub record HasRoomFor (limit : ℕ) (made : TableEntries) (t : Tables) : Type 0 where
  pub grown : Tables
  pub grows : GrowsWithin made t grown
  pub entries : HasEntries made grown
  pub kept : KeepsLimits limit t grown
