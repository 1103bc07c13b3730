-- What the program's answers stand for.
use Rattle.std.specs.Prelude.{◌≡◌, Option, Some, None, Result, Ok, Err}
use Rattle.tm_onig_atom.specs.declared.fault.AtomFault.{AtomFault}
use Rattle.tm_onig_atom.specs.declared.fault.AtomFault.TheVariants.{Unreadable, OutOfMemory}

-- It fails as reading fails, unless memory ran out.
abbrev pub Fails : {Y : Type 0} → AtomFault → Option Y → Type 0
Fails Unreadable read = read ≡ None
Fails OutOfMemory read = Unit {0}

-- It is what reading gives, unless memory ran out.
abbrev pub Gives : {X Y : Type 0} → (X → Y) → Result X AtomFault → Option Y → Type 0
Gives view (Ok x) read = read ≡ Some (view x)
Gives view (Err fault) read = Fails fault read
