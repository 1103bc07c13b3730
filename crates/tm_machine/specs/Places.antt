-- Places of a text, and what may be wrong with those of a change.
use Rattle.std.specs.Prelude.{◌≡◌, ℕ, ◌<◌, ◌≤◌, Bool, ◌&&◌, ◌||◌, nat_eq, nat_lt, nat_le, List, [], length, Option, Some, None, if◌then◌else◌, slice_get, slice_index_or}
use Rattle.tm_defs.specs.declared.changes.Change.{Change}
use Rattle.tm_defs.specs.declared.changes.Place.{Place}
use Rattle.tm_defs.specs.declared.changes.Place.TheVariants.{NoLine, NoCol, Reversed}

abbrev pub line_at : List (List ℕ) → ℕ → List ℕ
line_at lines i = slice_index_or lines i []

-- both places of a change are in the text, and in order
pub record IsIn (lines : List (List ℕ)) (c : Change) : Type 0 where
  pub first : c.from_line < length lines
  pub last : c.to_line < length lines
  pub from : c.from_col ≤ length (line_at lines c.from_line)
  pub to : c.to_col ≤ length (line_at lines c.to_line)
  pub lines_in_order : c.from_line ≤ c.to_line
  pub cols_in_order : c.from_line ≡ c.to_line → c.from_col ≤ c.to_col

-- what is wrong with one place
abbrev pub column_fault : (line col : ℕ) → List ℕ → Option Place
column_fault line col characters = if nat_le col (length characters) then None else Some (NoCol line col (length characters))

abbrev pub line_fault : (lines line col : ℕ) → Option (List ℕ) → Option Place
line_fault lines line col None = Some (NoLine line lines)
line_fault lines line col (Some characters) = column_fault line col characters

abbrev pub place_fault : List (List ℕ) → (line col : ℕ) → Option Place
place_fault lines line col = line_fault (length lines) line col (slice_get lines line)

abbrev pub is_reversed : Change → Bool
is_reversed c = nat_lt c.to_line c.from_line || (nat_eq c.from_line c.to_line && nat_lt c.to_col c.from_col)

abbrev pub first_fault : Option Place → Option Place → Option Place
first_fault (Some p) q = Some p
first_fault None q = q

-- the first that is wrong: the first place, the second place, their order
abbrev pub bad_place : List (List ℕ) → Change → Option Place
bad_place lines c =
    first_fault (place_fault lines c.from_line c.from_col)
    (first_fault (place_fault lines c.to_line c.to_col) (if is_reversed c then Some Reversed else None))
