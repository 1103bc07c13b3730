-- The runs of marks, as the painter makes them one by one.
use Rattle.std.specs.Prelude.{ℕ, ◌&&◌, nat_lt, List, [], ◌∷◌, ◌++◌, Option, Some, if◌then◌else◌}
use Rattle.tm_defs.specs.declared.tokens.Token.{Token}
use Rattle.tm_paint.specs.Painted.{Mark, starts}

-- the tokens of the marks from a painted place on
unfoldable pub mark_runs : Option ℕ → ℕ → ℕ → List Mark → List Token
mark_runs before at len [] = []
mark_runs before at len (m ∷ ms) =
    if nat_lt at m.end && nat_lt at len
    then starts before at m.meta ++ mark_runs (Some m.meta) m.end len ms
    else mark_runs before at len ms
