-- What is painted at each place of a line, and the tokens that come of it.
use Rattle.std.specs.Prelude.{ℕ, zero, suc, ◌+◌, ◌==◌, Bool, false, nat_lt, max, List, [], ◌∷◌, ◌++◌, map, Option, Some, None, if◌then◌else◌}
use Rattle.tm_defs.specs.declared.tokens.Token.{Token}
use Rattle.tm_paint.specs.declared.painter.Painted.{Painted}

-- scopes, from the end of the piece before up to an end
pub record Piece : Type 0 where
  pub end : ℕ
  pub scopes : List (List ℕ)

-- the scopes at an offset are those of the first piece that ends behind it
abbrev pub scopes_at : List Piece → ℕ → List (List ℕ)
scopes_at [] offset = []
scopes_at (p ∷ ps) offset = if nat_lt offset p.end then p.scopes else scopes_at ps offset

-- an end, and the metadata up to it
pub record Mark : Type 0 where
  pub end : ℕ
  pub meta : ℕ

-- the marks of a painter's pieces
abbrev pub marks : List Painted → List Mark
marks pieces = map (λ p. record { end = p.end; meta = p.meta }) pieces

-- those of plain pieces, by the metadata of their scopes
abbrev pub marked : (List (List ℕ) → ℕ) → List Piece → List Mark
marked meta pieces = map (λ p. record { end = p.end; meta = meta p.scopes }) pieces

-- the metadata at an offset is that of the first mark that ends behind it
abbrev pub meta_at : List Mark → ℕ → ℕ
meta_at [] offset = 0
meta_at (m ∷ ms) offset = if nat_lt offset m.end then m.meta else meta_at ms offset

-- how far is painted: the greatest end
abbrev pub furthest : List Mark → ℕ
furthest [] = 0
furthest (m ∷ ms) = max m.end (furthest ms)

-- whether the run before has this metadata
abbrev pub is_same : Option ℕ → ℕ → Bool
is_same None meta = false
is_same (Some before) meta = before == meta

-- a token starts here, unless the run before goes on
abbrev pub starts : Option ℕ → ℕ → ℕ → List Token
starts before at meta = if is_same before meta then [] else record { start = at; meta = meta } ∷ []

-- the maximal runs of equal metadata over n characters from a place on, behind a run of the metadata before
unfoldable pub runs_from : (ℕ → ℕ) → Option ℕ → ℕ → ℕ → List Token
runs_from meta before at zero = []
runs_from meta before at (suc n) = starts before at (meta at) ++ runs_from meta (Some (meta at)) (at + 1) n

-- the tokens of a line of this many characters, by the metadata of each; an empty line has one, with
-- the metadata of the state behind it
abbrev pub runs_of : (ℕ → ℕ) → ℕ → ℕ → List Token
runs_of meta end_meta zero = record { start = 0; meta = end_meta } ∷ []
runs_of meta end_meta (suc n) = runs_from meta None 0 (suc n)
