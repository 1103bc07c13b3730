-- What one read of a file gives, and when it may fail.
use Rattle.std.specs.Prelude.{◌≡◌, ◌⊎◌, ℕ, ◌≤◌, List, [], ◌∷◌, ◌++◌, length, Option, Some, None, Result, Ok, Err}
use Rattle.tm_outside.specs.declared.files.ReadFault.{ReadFault}
use Rattle.tm_outside.specs.declared.files.ReadFault.TheVariants.{Failed, OutOfMemory}

-- how many bytes a file may have: 1 GiB
abbrev pub greatest_file : ℕ
greatest_file = 1073741824

-- one read leaves the list of failed names as it was, or adds its own name at the end
abbrev pub MayFail : List (List ℕ) → List (List ℕ) → List ℕ → Type 0
MayFail old new name = (new ≡ old) ⊎ (new ≡ old ++ name ∷ [])

-- the bytes of a file that may be read were added
abbrev pub Appends : List ℕ → List ℕ → List ℕ → Type 0
Appends bytes before after = (after ≡ before ++ bytes) × (length bytes ≤ greatest_file)

-- the file's bytes were added: the bytes told, or some where none are told
abbrev pub AppendsTold : Option (List ℕ) → List ℕ → List ℕ → Type 0
AppendsTold (Some bytes) before after = Appends bytes before after
AppendsTold None before after = (bytes : List ℕ) × Appends bytes before after

-- a read adds the file's bytes; a refusal leaves the buffer, and a failure adds the name to those that failed
abbrev pub Reads : Option (List ℕ) → (old new : List (List ℕ)) → (name before after : List ℕ) → Result (Unit {0}) ReadFault → Type 0
Reads told old new name before after (Ok done) = AppendsTold told before after
Reads told old new name before after (Err Failed) = (after ≡ before) × (new ≡ old ++ name ∷ [])
Reads told old new name before after (Err OutOfMemory) = after ≡ before
