-- What a sink takes of a piece, and when it may refuse.
use Rattle.std.specs.Prelude.{◌≡◌, ℕ, ◌+◌, ◌-◌, ◌^◌, ◌<◌, ◌≤◌, min, List, [], ◌++◌, length, take, Option, Some, None, Result, Ok, Err, ⊤}
use Rattle.tm_outside.specs.declared.sink.WriteFault.{WriteFault}
use Rattle.tm_outside.specs.declared.sink.WriteFault.TheVariants.{Failed, OutOfMemory}

-- one more; a `u64` that counts stays at its greatest value
abbrev pub counted_up : ℕ → ℕ
counted_up count = min (count + 1) (2 ^ 64 - 1)

-- a count of faults has risen; one that stands at its greatest value counts as risen
abbrev pub Rose : ℕ → ℕ → Type 0
Rose before now = counted_up before ≤ now

-- these bytes were added, where a sink tells its bytes; it tells them before and after, or never
abbrev pub Takes : Option (List ℕ) → Option (List ℕ) → List ℕ → Type 0
Takes (Some old) (Some new) bytes = new ≡ old ++ bytes
Takes None None bytes = ⊤
Takes (Some old) None bytes = ⊥
Takes None (Some new) bytes = ⊥

-- a front of these bytes was added
abbrev pub TakesFront : Option (List ℕ) → Option (List ℕ) → List ℕ → Type 0
TakesFront old new bytes = (front : List ℕ) × (rest : List ℕ) × (bytes ≡ front ++ rest) × Takes old new front

-- one write takes a front of the piece, of at least one byte where the piece has some; a refusal takes nothing
abbrev pub TakesPiece : Option (List ℕ) → Option (List ℕ) → List ℕ → Result ℕ WriteFault → Type 0
TakesPiece old new piece (Ok count) = Takes old new (take count piece) × (count ≤ length piece) × (0 < length piece → 0 < count)
TakesPiece old new piece (Err fault) = Takes old new []

-- all bytes were taken, or a front of them before a refusal
abbrev pub TakesAll : {T : Type 0} → Option (List ℕ) → Option (List ℕ) → List ℕ → Result T WriteFault → Type 0
TakesAll old new bytes (Ok done) = Takes old new bytes
TakesAll old new bytes (Err fault) = TakesFront old new bytes

-- a failure needs a risen count of faults; want of memory needs no cause
abbrev pub IsWriteCause : ℕ → ℕ → WriteFault → Type 0
IsWriteCause before now Failed = Rose before now
IsWriteCause before now OutOfMemory = ⊤
