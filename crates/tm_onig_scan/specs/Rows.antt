-- Which patterns of a list may start a match, by what stands around the start.
use Rattle.std.specs.Prelude.{◌≡◌, ℕ, ◌+◌, ◌<◌, ◌≤◌, length, Bool, true, false, List, [], ◌∷◌, Option, Some, None, ⊤, ◌⊎◌, ◌==◌, nat_lt, if◌then◌else◌, slice_get}
use Rattle.tm_onig_class.specs.Tree.{Tree}
use Rattle.tm_onig_vm.specs.First.{NeverStarts, next_class}
use Rattle.tm_onig_scan.specs.Winner.{patterns_at}
use Rattle.tm_onig_scan.specs.Steady.{all_steady}
use Rattle.tm_onig_scan.specs.declared.candidates.Row.{Row}
use Rattle.tm_onig_scan.specs.declared.candidates.Candidates.{Candidates}

-- no match starts there; what is unreadable matches nowhere
abbrev pub NeverStartsIf : Option Tree → Option Bool → Option ℕ → Type 0
NeverStartsIf None behind next = ⊤
NeverStartsIf (Some t) behind next = NeverStarts t behind next

module _ (behind : Option Bool) (next : Option ℕ) where
  -- The row has the places, from this one on, of the patterns in their order, but for such as never start there.
  abbrev pub IsRow : ℕ → List (Option Tree) → List ℕ → Type 0
  IsRow place [] row = row ≡ []
  IsRow place (p ∷ ps) row = (later : List ℕ) × IsRow (place + 1) ps later × ((row ≡ place ∷ later) ⊎ ((row ≡ later) × NeverStartsIf p behind next))

-- the places of a row before this one, those from it on, and those behind it where it is the first
abbrev pub places_before : ℕ → List ℕ → List ℕ
places_before place [] = []
places_before place (p ∷ row) = if nat_lt p place then p ∷ places_before place row else []

abbrev pub places_from : ℕ → List ℕ → List ℕ
places_from place [] = []
places_from place (p ∷ row) = if nat_lt p place then places_from place row else p ∷ row

abbrev pub places_without : ℕ → List ℕ → List ℕ
places_without place [] = []
places_without place (p ∷ row) = if p == place then row else p ∷ row

-- the places of the row of this number; none where there is none
abbrev pub places_of : Option Row → List ℕ
places_of None = []
places_of (Some row) = row.places.items

-- the row that a class has by its number
abbrev pub row_at : List Row → Option ℕ → List ℕ
row_at rows None = []
row_at rows (Some number) = places_of (slice_get rows number)

-- each class has its row, by number
abbrev pub AreRows : List (Option Tree) → Option Bool → List Row → List ℕ → Type 0
AreRows ps behind rows numbers = (next : Option ℕ) → IsRow behind next 0 ps (row_at rows (slice_get numbers (next_class next)))

-- The rows of the list are those of its patterns, and it is steady where all its patterns are.
pub record AreCandidates (patterns : List (Option Tree)) (it : Candidates) : Type 0 where
  pub steady : it.steady ≡ all_steady (patterns_at patterns it.numbers.items)
  pub unknown : AreRows (patterns_at patterns it.numbers.items) None it.rows.items it.unknown.items
  pub word : AreRows (patterns_at patterns it.numbers.items) (Some true) it.rows.items it.word.items
  pub other : AreRows (patterns_at patterns it.numbers.items) (Some false) it.rows.items it.other.items

-- the rows of before have their numbers still
pub record Keeps (old new : List Row) : Type 0 where
  pub longer : length old ≤ length new
  pub same : (number : ℕ) → number < length old → slice_get new number ≡ slice_get old number

-- each class has its row, and each number is that of a row
pub record AreKeptRows (ps : List (Option Tree)) (behind : Option Bool) (rows : List Row) (numbers : List ℕ) : Type 0 where
  pub right : AreRows ps behind rows numbers
  pub inside : (class number : ℕ) → slice_get numbers class ≡ Some number → number < length rows
