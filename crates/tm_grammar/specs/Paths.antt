-- Paths into a JSON value (JSON Pointer, RFC 6901), in characters.
use Rattle.std.specs.Prelude.{ℕ, List, [], ◌∷◌, ◌++◌, codes, decimal, nat_eq, if◌then◌else◌}
use Rattle.std.specs.Str.{chars}

-- a `~` of a key is written `~0`, and a `/` is written `~1`
abbrev pub escaped_character : ℕ → List ℕ
escaped_character c = if nat_eq c 126 then codes "~0" else (if nat_eq c 47 then codes "~1" else c ∷ [])

abbrev pub escaped : List ℕ → List ℕ
escaped [] = []
escaped (c ∷ cs) = escaped_character c ++ escaped cs

-- the step to the member of a key
abbrev pub key_step : List ℕ → List ℕ
key_step key = codes "/" ++ escaped (chars key)

-- the step to the item at a place, counted from 0
abbrev pub place_step : ℕ → List ℕ
place_step place = codes "/" ++ decimal place
