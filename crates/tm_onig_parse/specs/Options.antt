-- Letters that set options.
use Rattle.std.specs.Prelude.{ℕ, ◌==◌, ◌&&◌, Bool, false, List, [], ◌∷◌, Option, Some, None, if◌then◌else◌}
use Rattle.tm_onig_atom.specs.declared.options.Options.{Options}
use Rattle.tm_onig_atom.specs.inner.Reading.{◌>>=◌}

-- A letter sets an option, or clears it behind a `-`, which may stand once.
unfoldable pub letter : Bool → Options → ℕ → Option (Bool × Options)
letter on o c =
    if c == 105 then Some (on, record o { fold = on })
    else if c == 109 then Some (on, record o { newline = on })
    else if c == 120 then Some (on, record o { extended = on })
    else if (c == 45) && on then Some (false, o)
    else None

-- The options that hold behind the letters, if all are letters of options.
abbrev pub switched : Bool → Options → List ℕ → Option Options
switched on o [] = Some o
switched on o (c ∷ letters) = letter on o c >>= λ l. switched l.0 l.1 letters
