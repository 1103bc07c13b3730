-- Patterns as they are written: a pattern is a body, made of things that are spelled one after another.
-- What it means is in `Meaning`.
use Rattle.std.specs.Prelude.{ℕ, ◌+◌, List, [], ◌∷◌, ◌++◌}
use Rattle.tm_onig_atom.specs.declared.options.Options.{Options}
use Rattle.tm_onig_parse.specs.Things.{Atom, Opening, inside, opener_of, count, Amount, Mark, Skip, Single, Opens, Setting, Closing, Bar, Times, Skipped, Toks}

-- The grammar. A body is what a group holds: alternatives, and where options are set among them, the
-- body from there on, which is one more part of the last alternative. Alternatives are rows of pieces. A
-- piece is an atom, a group, or a piece with a quantifier behind it. What means nothing stands in rows
-- and behind pieces.
mutual
  pub data Body : Type 0 where
    Simply : Alts → Body
    Under : Alts → List ℕ → Options → Body → Body

  pub data Alts : Type 0 where
    First : Row → Alts
    Also : Alts → Row → Alts

  pub data Row : Type 0 where
    Nothing : Row
    Then : Row → Piece → Row
    Noted : Row → Skip → Row

  pub data Piece : Type 0 where
    Alone : Atom → Piece
    Inside : Opening → Body → Piece
    Repeated : Piece → Amount → Mark → Piece
    Behind : Piece → Skip → Piece

-- The options at a body's end.
abbrev pub end_options : Body → Options → Options
end_options (Simply alts) o = o
end_options (Under alts letters after body) o = end_options body after

-- What they are written as, under the options at their beginning.
abbrev mutual
  pub written : Body → Options → Toks
  written (Simply alts) o = written_alts alts o
  written (Under alts letters after body) o = written_alts alts o ++ (Setting letters after, o) ∷ written body after

  pub written_alts : Alts → Options → Toks
  written_alts (First row) o = written_row row o
  written_alts (Also alts row) o = written_alts alts o ++ (Bar, o) ∷ written_row row o

  pub written_row : Row → Options → Toks
  written_row Nothing o = []
  written_row (Then row piece) o = written_row row o ++ written_piece piece o
  written_row (Noted row s) o = written_row row o ++ (Skipped s, o) ∷ []

  pub written_piece : Piece → Options → Toks
  written_piece (Alone a) o = (Single a, o) ∷ []
  written_piece (Inside k body) o = (Opens k, o) ∷ (written body (inside k o) ++ (Closing, end_options body (inside k o)) ∷ [])
  written_piece (Repeated piece amount mark) o = written_piece piece o ++ (Times amount mark, o) ∷ []
  written_piece (Behind piece s) o = written_piece piece o ++ (Skipped s, o) ∷ []

-- How many capturing groups there are.
abbrev mutual
  pub groups : Body → ℕ
  groups (Simply alts) = groups_alts alts
  groups (Under alts letters after body) = groups_alts alts + groups body

  pub groups_alts : Alts → ℕ
  groups_alts (First row) = groups_row row
  groups_alts (Also alts row) = groups_alts alts + groups_row row

  pub groups_row : Row → ℕ
  groups_row Nothing = 0
  groups_row (Then row piece) = groups_row row + groups_piece piece
  groups_row (Noted row s) = groups_row row

  pub groups_piece : Piece → ℕ
  groups_piece (Alone a) = 0
  groups_piece (Inside k body) = count (opener_of k) + groups body
  groups_piece (Repeated piece amount mark) = groups_piece piece
  groups_piece (Behind piece s) = groups_piece piece
