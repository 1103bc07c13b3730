-- Painted pieces of a line, with the metadata of their scopes.
use Rattle.std.specs.Prelude.{ℕ, nat_lt, max, List, [], ◌∷◌, map, if◌then◌else◌}
use Rattle.tm_paint.specs.Painted.{Piece}
use Rattle.tm_line_turns.specs.declared.painter.Painted.{Painted}

-- pieces with the metadata of their scopes
abbrev pub painted : (List (List ℕ) → ℕ) → List Piece → List Painted
painted meta pieces = map (λ p. record { end = p.end; meta = meta p.scopes }) pieces

-- the metadata at an offset is that of the first piece that ends behind it
abbrev pub meta_at : List Painted → ℕ → ℕ
meta_at [] offset = 0
meta_at (p ∷ ps) offset = if nat_lt offset p.end then p.meta else meta_at ps offset

-- how far is painted: the greatest end
abbrev pub furthest : List Painted → ℕ
furthest [] = 0
furthest (p ∷ ps) = max p.end (furthest ps)
