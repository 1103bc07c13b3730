-- What a run of the machine keeps is of what stood before or after its steps.
use Rattle.std.specs.Prelude.{◌≡◌, ◌⊎◌, ℕ, Bool, true, false, List, [], ◌∷◌, Some, if◌then◌else◌, slice_get, Contains}
use Rattle.std.specs.List.{AllByRecursion}
use Rattle.tm_defs.specs.declared.events.Step.{Step}
use Rattle.tm_defs.specs.declared.frames.FrameData.{FrameData}
use Rattle.tm_machine.specs.declared.entries.Entry.{Entry}
use Rattle.tm_machine.specs.Changes.{BornText, changed}
use Rattle.tm_machine.specs.Documents.{Rules, Answer, Refused}
use Rattle.tm_machine.specs.Machine.{Order, ChangeOrder, SettingOrder, Item, Batch, Machine}
use Rattle.tm_machine.specs.Reach.{Stand, stand_in, stands_of}
use Rattle.tm_machine.specs.Scratch.{line_from_scratch}

-- a refused step leaves what stood: a refused edit is no text
abbrev pub is_done : Answer → Bool
is_done (Refused why) = false
is_done _ = true

abbrev pub done_steps : List (Step × Answer) → List Step
done_steps [] = []
done_steps (x ∷ xs) = if is_done x.1 then x.0 ∷ done_steps xs else done_steps xs

-- what stood before or after the steps of a run
abbrev pub stands_of_run : List (List ℕ) → List (Step × Answer) → List Stand
stands_of_run lines xs = stands_of (record { lines = lines; epoch = 0 }) (done_steps xs)

-- the opening state, or the end of a line of what stood, from its state from scratch
abbrev pub ReachesEnd : Rules → List Stand → List FrameData → Type 0
ReachesEnd r stands state =
    (state ≡ []) ⊎ ((s : Stand) × (i : ℕ) × (line : List ℕ) × Contains stands s × (slice_get s.lines i ≡ Some line) × (state ≡ (line_from_scratch (r.setting s.epoch) s.lines i line).end))

-- each stored end is such a state
abbrev pub HasEnds : (List FrameData → Type 0) → List (Entry (List FrameData)) → Type 0
HasEnds P es = AllByRecursion (λ e. (s : List FrameData) → e.end ≡ Some s → P s) es

pub record IsItemWithin (P : List FrameData → Type 0) (x : Item) : Type 0 where
  pub start : P x.start
  pub end : P x.end

abbrev pub HasItemsWithin : (List FrameData → Type 0) → Batch → Type 0
HasItemsWithin P b = AllByRecursion (IsItemWithin P) b.items

-- a text and its setting, and each on the way through orders
abbrev pub way : BornText → (epoch : ℕ) → List Order → List Stand
way t epoch [] = record { lines = t.lines; epoch = epoch } ∷ []
way t epoch (ChangeOrder version c ∷ os) = record { lines = t.lines; epoch = epoch } ∷ way (changed t c) epoch os
way t epoch (SettingOrder number ∷ os) = record { lines = t.lines; epoch = epoch } ∷ way t number os

-- the foreground's text and each text on the worker's way stood with their settings, and each state that is stored or
-- waits is reached
pub record IsWithinPast (r : Rules) (stands : List Stand) (m : Machine) : Type 0 where
  pub here : Contains stands (stand_in m)
  pub way : AllByRecursion (Contains stands) (way m.back.text m.back.epoch m.orders)
  pub fore : HasEnds (ReachesEnd r stands) m.fore.entries
  pub back : HasEnds (ReachesEnd r stands) m.back.entries
  pub items : AllByRecursion (HasItemsWithin (ReachesEnd r stands)) m.batches
