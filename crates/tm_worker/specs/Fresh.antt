-- Marks of lines as ranges of lines that are marked.
use Rattle.std.specs.Prelude.{ℕ, zero, suc, ◌+◌, ◌-◌, nat_lt, nat_le, Bool, false, ◌&&◌, ◌||◌, List, [], ◌∷◌, if◌then◌else◌}
use Rattle.tm_store.specs.declared.spans.Span.{Span}
use Rattle.tm_store.specs.Spans.{span}

-- a mark for each line, the number of ranges, and how many more there is room for
pub record Fresh : Type 0 where
  pub marks : List Bool
  pub ranges : ℕ
  pub spare : ℕ

-- a line is in one of the ranges
abbrev pub covers : List Span → ℕ → Bool
covers [] i = false
covers (r ∷ rs) i = (nat_le r.first i && nat_lt i r.end) || covers rs i

-- what a test says of n numbers from one on
abbrev pub tests_from : (ℕ → Bool) → ℕ → ℕ → List Bool
tests_from f i zero = []
tests_from f i (suc n) = f i ∷ tests_from f (suc i) n

-- the marks of n lines
abbrev pub marks_of : ℕ → List Span → List Bool
marks_of n rs = tests_from (covers rs) 0 n

-- what is left of a range before the replaced lines, and behind them, where it moves
abbrev pub cut_range : (first old new : ℕ) → Span → List Span → List Span
cut_range first old new r rest =
    let behind : List Span = if nat_lt (first + old) r.end then span ((if nat_lt r.first (first + old) then first + old else r.first) + new - old) (r.end + new - old) ∷ rest else rest in
    if nat_lt r.first first then span r.first (if nat_lt first r.end then first else r.end) ∷ behind else behind

abbrev pub cut_ranges : (first old new : ℕ) → List Span → List Span
cut_ranges first old new [] = []
cut_ranges first old new (r ∷ rs) = cut_range first old new r (cut_ranges first old new rs)
