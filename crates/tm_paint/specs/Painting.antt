-- What a contract sees of a painter, and what its tokens mean.
use Rattle.std.specs.Prelude.{◌≡◌, ℕ, ◌≤◌, List}
use Rattle.tm_paint.specs.declared.painter.Painted.{Painted}
use Rattle.tm_paint.specs.Painted.{Piece, scopes_at, marks, marked, meta_at, furthest, runs_of}

-- the pieces in the order in which they were painted, and for how many more there is room
pub record Painting : Type 0 where
  pub pieces : List Painted
  pub spare : ℕ

-- where a painter's pieces stand for plain ones, its tokens are the runs of the metadata of the scopes at each place
abbrev pub AreOfScopes : (List (List ℕ) → ℕ) → List Painted → List Piece → Type 0
AreOfScopes meta pieces plain = (end_meta len : ℕ) → marks pieces ≡ marked meta plain → len ≤ furthest (marks pieces) →
    runs_of (meta_at (marks pieces)) end_meta len ≡ runs_of (λ offset. meta (scopes_at plain offset)) end_meta len
