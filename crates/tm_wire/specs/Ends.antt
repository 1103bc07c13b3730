-- What contracts see of the two ends of a wire.
use Rattle.std.specs.Prelude.{◌≡◌, ℕ, ◌≤◌, ◌-◌, ◌^◌, List, [], ◌++◌, length, map, min, true, false, ⊤}
use Rattle.atomic_table.specs.Seated.{TableId}
use Rattle.tm_defs.specs.Tokenizer.{Tokenized}
use Rattle.tm_defs.specs.declared.frames.FrameData.{FrameData}
use Rattle.tm_rebase.specs.Batches.{Posted}
use Rattle.tm_rebase.specs.Right.{IsRightBatch}
use Rattle.tm_rebase.specs.declared.orders.Order.{Order}
use Rattle.tm_wire.specs.Passed.{log, Passed, HeldUnder}

-- half of a queue: which queue, for how many values it has room, what both halves know, and what this one has pushed or popped
pub record Half (X S : Type 0) : Type 0 where
  pub queue : TableId
  pub room : ℕ
  pub known : S
  pub moved : List X

-- the two queues, and for how many values they have room
pub record Wire : Type 0 where
  pub orders : TableId
  pub batches : TableId
  pub order_room : ℕ
  pub batch_room : ℕ

-- the foreground's end
pub record Front (T : Type 0) : Type 0 where
  pub wire : Wire
  pub settings : List T
  pub sent : List Order
  pub taken : List Posted

-- the worker's end
pub record Back (T : Type 0) : Type 0 where
  pub wire : Wire
  pub settings : List T
  pub received : List Order
  pub posted : List Posted

-- a count of values, which stays at its greatest value
abbrev pub counted : {X : Type 0} → List X → ℕ
counted xs = min (length xs) (2 ^ 64 - 1)

-- any order may be sent
abbrev pub IsAnyOrder : Unit {0} → Order → Type 0
IsAnyOrder _ _ = ⊤

-- a batch may be posted that is right for the settings
abbrev pub IsRightFor : {T P : Type 0} → (P → List FrameData → List ℕ → Tokenized) → (T → P) → List T → Posted → Type 0
IsRightFor tokenized plain settings batch = IsRightBatch tokenized (map plain settings) batch

module _ {X S : Type 0} (fit : S → X → Type 0) where
  -- at a step of the call the queue was full, and this end had pushed these values
  abbrev pub WasFull : (room : ℕ) → S → (pushed : List X) → Type 0
  WasFull room known pushed = HeldUnder (Passed fit) room (log true false known pushed [])

  -- at a step of the call the queue was empty, and this end had popped these values
  abbrev pub WasEmpty : S → (popped : List X) → Type 0
  WasEmpty known popped = HeldUnder (Passed fit) 0 (log false true known [] popped)

-- what was popped is a prefix of what was pushed, and the rest, which the queue still holds, is not more than it has room for
abbrev pub WereHandedOver : {X : Type 0} → (room : ℕ) → (pushed popped : List X) → Type 0
WereHandedOver {X} room pushed popped = (rest : List X) × (pushed ≡ popped ++ rest) × (length rest ≤ room)
