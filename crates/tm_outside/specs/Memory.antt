-- Files and sinks in memory, of which chosen calls fail.
use Rattle.tm_outside.specs.declared.sink.WriteFault.{WriteFault}
use Rattle.tm_outside.specs.declared.sink.WriteFault.TheVariants as write
use Rattle.tm_outside.specs.declared.files.ReadFault.{ReadFault}
use Rattle.tm_outside.specs.declared.files.ReadFault.TheVariants as read
use Rattle.std.specs.Prelude.{◌≡◌, length, true, false, Result, Ok, Err, ⊤, ℕ, List, [], ◌∷◌, ◌++◌, Bool, if◌then◌else◌, nat_eq, nat_le, Option, Some, None, IsSome, option_and_then, Vec, String, string_bytes}
use Rattle.std.specs.List.{list_any}
use Rattle.std.specs.Str.{bytes_eq}
use Rattle.std.specs.declared.alloc.Global.{Global}
use Rattle.tm_outside.specs.Causes.{counted_up}
use Rattle.tm_outside.specs.Files.{greatest_file}

-- a file with its name
abbrev pub named_bytes : (String Global × Vec ℕ Global) → (List ℕ × List ℕ)
named_bytes f = (string_bytes f.0, f.1.items)

-- the bytes of the first file of this name
abbrev pub held_in : List ℕ → List (List ℕ × List ℕ) → Option (List ℕ)
held_in name [] = None
held_in name (f ∷ fs) = if bytes_eq f.0 name then Some f.1 else held_in name fs

-- whether the call of this number is one of those that fail
abbrev pub fails : List ℕ → ℕ → Bool
fails failing call = list_any (λ n. nat_eq n call) failing

-- named files, the numbers of the reads that fail, how many reads were made, and the names whose reads failed
pub record MemFilesData : Type 0 where
  pub files : List (List ℕ × List ℕ)
  pub failing : List ℕ
  pub made : ℕ
  pub failed : List (List ℕ)

-- a file that is not too long
abbrev pub within_greatest : List ℕ → Option (List ℕ)
within_greatest bytes = if nat_le (length bytes) greatest_file then Some bytes else None

-- what the next read of this name gives: nothing where its number is one of those that fail, where there is no such file, and where that is too long
abbrev pub given_by : List ℕ → ℕ → List (List ℕ × List ℕ) → List ℕ → Option (List ℕ)
given_by failing call files name = if fails failing call then None else option_and_then within_greatest (held_in name files)

-- a read fails exactly where there is nothing to give, but for want of memory
abbrev pub ReadsByNumber : Option (List ℕ) → Result (Unit {0}) ReadFault → Type 0
ReadsByNumber given (Ok done) = IsSome given
ReadsByNumber given (Err read.Failed) = given ≡ None
ReadsByNumber given (Err read.OutOfMemory) = ⊤

-- the names whose reads failed, after one more read
abbrev pub failed_after : List (List ℕ) → List ℕ → Result (Unit {0}) ReadFault → List (List ℕ)
failed_after failed name (Ok done) = failed
failed_after failed name (Err read.Failed) = failed ++ name ∷ []
failed_after failed name (Err read.OutOfMemory) = failed

-- the files after one more read: its number is used up
abbrev pub after_read : MemFilesData → List ℕ → Result (Unit {0}) ReadFault → MemFilesData
after_read old name result = record { files = old.files; failing = old.failing; made = counted_up old.made; failed = failed_after old.failed name result }

-- the bytes taken, the numbers of the writes that fail, how many writes were made, and how many failed
pub record MemSinkData : Type 0 where
  pub taken : List ℕ
  pub failing : List ℕ
  pub made : ℕ
  pub faults : ℕ

-- a write fails exactly where its number is one of those that fail; another takes the whole piece
abbrev pub WritesByNumber : Bool → List ℕ → Result ℕ WriteFault → Type 0
WritesByNumber failing piece (Ok count) = (failing ≡ false) × (count ≡ length piece)
WritesByNumber failing piece (Err write.Failed) = failing ≡ true
WritesByNumber failing piece (Err write.OutOfMemory) = failing ≡ false

abbrev pub taken_after : List ℕ → List ℕ → Result ℕ WriteFault → List ℕ
taken_after taken piece (Ok count) = taken ++ piece
taken_after taken piece (Err fault) = taken

abbrev pub faults_after : ℕ → Result ℕ WriteFault → ℕ
faults_after faults (Ok count) = faults
faults_after faults (Err write.Failed) = counted_up faults
faults_after faults (Err write.OutOfMemory) = faults

-- the sink after one more write: its number is used up
abbrev pub after_write : MemSinkData → List ℕ → Result ℕ WriteFault → MemSinkData
after_write old piece result = record { taken = taken_after old.taken piece result; failing = old.failing; made = counted_up old.made; faults = faults_after old.faults result }
