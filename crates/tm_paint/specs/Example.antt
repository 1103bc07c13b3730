-- Short words for worked rows.
use Rattle.std.specs.Prelude.{ℕ}
use Rattle.tm_defs.specs.declared.tokens.Token.{Token}
use Rattle.tm_paint.specs.Painted.{Mark}

abbrev pub mark : ℕ → ℕ → Mark
mark end meta = record { end = end; meta = meta }

abbrev pub token : ℕ → ℕ → Token
token start meta = record { start = start; meta = meta }
