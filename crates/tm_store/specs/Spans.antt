-- The maximal runs of entries that are not good, and what happens to them where entries change.
use Rattle.std.specs.Prelude.{ℕ, suc, ◌<◌, ◌≤◌, ◌+◌, ◌-◌, ◌==◌, nat_lt, nat_le, not, Bool, List, [], ◌∷◌, map, if◌then◌else◌}
use Rattle.std.specs.List.{prefix_len}
use Rattle.tm_machine.specs.declared.entries.Entry.{Entry}
use Rattle.tm_store.specs.declared.spans.Span.{Span}

-- the numbers from one to the one before another
abbrev pub span : ℕ → ℕ → Span
span a b = record { first = a; end = b }

-- a run before others, one with the next where they touch
abbrev pub joined : ℕ → ℕ → List Span → List Span
joined a b [] = span a b ∷ []
joined a b (r ∷ rs) = if r.first == b then span a r.end ∷ rs else span a b ∷ (r ∷ rs)

-- runs that are not empty, none below k, with a gap between each two
abbrev pub AreFrom : ℕ → List Span → Type 0
AreFrom k [] = Unit {0}
AreFrom k (r ∷ rs) = (k ≤ r.first) × (r.first < r.end) × AreFrom (suc r.end) rs

-- the maximal runs of entries that are not good, where the first entry has the number k
abbrev pub runs : {S : Type 0} → ℕ → List (Entry S) → List Span
runs k [] = []
runs k (e ∷ es) = if e.good then runs (suc k) es else joined k (suc k) (runs (suc k) es)

-- a run, if it has a number
abbrev pub piece : ℕ → ℕ → List Span → List Span
piece a b rs = if nat_lt a b then span a b ∷ rs else rs

-- a change of the runs from the first on that stops the walk
abbrev pub walked : (Span → Bool) → (List Span → List Span) → List Span → List Span
walked stop f [] = f []
walked stop f (r ∷ rs) = if stop r then f (r ∷ rs) else r ∷ walked stop f rs

-- how many runs a walk passes
abbrev pub passed : (Span → Bool) → List Span → ℕ
passed stop rs = prefix_len (λ r. not (stop r)) rs

abbrev pub cut : ℕ → List Span → List Span
cut i [] = []
cut i (r ∷ rs) = if nat_lt i r.first then r ∷ rs else piece r.first i (piece (suc i) r.end rs)

abbrev pub grown : ℕ → List Span → List Span
grown i [] = span i (suc i) ∷ []
grown i (r ∷ rs) = if r.end == i then joined r.first (suc i) rs else (if nat_lt i r.first then joined i (suc i) (r ∷ rs) else r ∷ rs)

-- the runs without i
abbrev pub fixed : ℕ → List Span → List Span
fixed i rs = walked (λ r. nat_lt i r.end) (cut i) rs

-- the runs with i
abbrev pub marked : ℕ → List Span → List Span
marked i rs = walked (λ r. nat_le i r.end) (grown i) rs

-- what lies at m and above
abbrev pub trimmed : ℕ → List Span → List Span
trimmed m [] = []
trimmed m (r ∷ rs) = if nat_lt m r.end then (if nat_lt r.first m then span m r.end ∷ rs else r ∷ rs) else trimmed m rs

-- the runs with other numbers
abbrev pub moved_by : (ℕ → ℕ) → List Span → List Span
moved_by f rs = map (λ (r : Span). span (f r.first) (f r.end)) rs

-- the first run begins at a
abbrev pub glued : ℕ → List Span → List Span
glued a [] = []
glued a (r ∷ rs) = span a r.end ∷ rs

-- the runs below m, and then others, of which the first begins at m
abbrev pub swept : ℕ → List Span → List Span → List Span
swept m rest [] = rest
swept m rest (r ∷ rs) = if nat_lt r.first m then (if nat_lt r.end m then r ∷ swept m rest rs else glued r.first rest) else rest

-- the runs where the old numbers from the first on became new ones, all of them in one run
abbrev pub renewed : (first old new : ℕ) → List Span → List Span
renewed first old new rs = swept first (joined first (first + new) (moved_by (λ x. x + new - old) (trimmed (first + old) rs))) rs

-- where a run begins that takes in one at m and the first of these, where that reaches m
abbrev pub start_in : ℕ → List Span → ℕ
start_in m [] = m
start_in m (r ∷ rs) = if nat_lt r.first m then r.first else m
