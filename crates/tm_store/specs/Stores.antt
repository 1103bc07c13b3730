-- What a contract sees of a store.
use Rattle.std.specs.Prelude.{ℕ, Bool, false, List, Option, Some, None}
use Rattle.tm_machine.specs.declared.entries.Entry.{Entry}
pub use Rattle.tm_machine.specs.Entries.{guess}

-- the entries in line order, and how many ranges of them can still be told apart in the room that is there
pub record Stored (S : Type 0) : Type 0 where
  pub entries : List (Entry S)
  pub spare : ℕ

-- whether an end is the same as the one before, if there is one
abbrev pub is_same : {S : Type 0} → (S → S → Bool) → Option S → S → Bool
is_same eq None end = false
is_same eq (Some old) end = eq old end
