-- The runs of pieces, as the painter makes them piece by piece.
use Rattle.std.specs.Prelude.{ℕ, ◌&&◌, nat_lt, List, [], ◌∷◌, ◌++◌, Option, Some, if◌then◌else◌}
use Rattle.tm_defs.specs.declared.tokens.Token.{Token}
use Rattle.tm_paint.specs.Painted.{starts}
use Rattle.tm_line_turns.specs.declared.painter.Painted.{Painted}

-- the tokens of the pieces from a painted place on
unfoldable pub piece_runs : Option ℕ → ℕ → ℕ → List Painted → List Token
piece_runs before at len [] = []
piece_runs before at len (p ∷ ps) =
    if nat_lt at p.end && nat_lt at len
    then starts before at p.meta ++ piece_runs (Some p.meta) p.end len ps
    else piece_runs before at len ps
