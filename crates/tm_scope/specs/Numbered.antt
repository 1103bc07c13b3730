-- Values by number.
use Rattle.std.specs.Prelude.{◌≡◌, ◌⊎◌, ℕ, ◌+◌, ◌-◌, ◌≤◌, List, [], ◌∷◌, ◌++◌, length, Some, slice_get, Contains, ⊤}
use Rattle.tm_defs.specs.declared.tables.TableFault.{TableFault}
use Rattle.tm_defs.specs.declared.tables.TableFault.TheVariants.{TableFull, OutOfMemory}

-- the values in the order of their numbers, of which the least is first
pub record NumberedValues (T : Type 0) : Type 0 where
  pub first : ℕ
  pub values : List T

-- how many numbers are taken; those below the first are
abbrev pub taken : {T : Type 0} → NumberedValues T → ℕ
taken s = s.first + length s.values

-- the number stands for the value
abbrev pub HasNumber : {T : Type 0} → NumberedValues T → ℕ → T → Type 0
HasNumber s n x = (s.first ≤ n) × (slice_get s.values (n - s.first) ≡ Some x)

-- a value that is there adds nothing, and a new one goes last
abbrev pub TakesIn : {X : Type 0} → X → List X → List X → Type 0
TakesIn x old new = (Contains old x × (new ≡ old)) ⊎ (¬ Contains old x × (new ≡ old ++ x ∷ []))

-- nothing was added, or the limit is kept
abbrev pub KeepsLimit : ℕ → ℕ → ℕ → Type 0
KeepsLimit limit old new = (new ≡ old) ⊎ (new ≤ limit)

-- so many numbers or more are taken
abbrev pub IsFullAt : ℕ → ℕ → TableFault → Type 0
IsFullAt limit count (TableFull n) = (n ≡ limit) × (limit ≤ count)
IsFullAt limit count OutOfMemory = ⊤
