-- What a value needs in a table, and tables that have all of it.
use Rattle.std.specs.Prelude.{◌≡◌, ◌⊎◌, ℕ, ◌≤◌, List, [], ◌∷◌, length, map, Contains, ⊤}
use Rattle.std.specs.List.{AllByRecursion}
use Rattle.tm_defs.specs.Tables.{Tables, TableEntries}
use Rattle.tm_defs.specs.declared.tables.TableFault.{TableFault}
use Rattle.tm_defs.specs.declared.tables.TableFault.TheVariants.{TableFull, OutOfMemory}
use Rattle.tm_scope.specs.Numbered.{KeepsLimit}

-- the empty list, its first element, its first two, and so on to the whole list
abbrev pub fronts : {X : Type 0} → List X → List (List X)
fronts [] = [] ∷ []
fronts (x ∷ xs) = [] ∷ map (λ front. x ∷ front) (fronts xs)

abbrev pub text_and_path : List ℕ → List (List ℕ) → TableEntries
text_and_path text path = record { texts = text ∷ []; paths = path ∷ []; states = [] }

-- the names of a scope list, and its fronts
abbrev pub path_entries : List (List ℕ) → TableEntries
path_entries path = record { texts = path; paths = fronts path; states = [] }

-- each entry is in its table
pub record HasEntries (made : TableEntries) (t : Tables) : Type 0 where
  pub texts : AllByRecursion (Contains t.texts) made.texts
  pub paths : AllByRecursion (Contains t.paths) made.paths
  pub states : AllByRecursion (Contains t.states) made.states

-- with a scope list, all that it needs is there
abbrev pub HasPathEntries : Tables → Type 0
HasPathEntries t = (path : List (List ℕ)) → Contains t.paths path → HasEntries (path_entries path) t

-- a table that grew kept the limit
pub record KeepsLimits (limit : ℕ) (old new : Tables) : Type 0 where
  pub texts : KeepsLimit limit (length old.texts) (length new.texts)
  pub paths : KeepsLimit limit (length old.paths) (length new.paths)
  pub states : KeepsLimit limit (length old.states) (length new.states)

-- a list has so many elements or more, and lacks one of these
abbrev pub LacksOneAt : {X : Type 0} → ℕ → List X → List X → Type 0
LacksOneAt {X} limit made xs = (limit ≤ length xs) × ((x : X) × Contains made x × ¬ Contains xs x)

abbrev pub LacksEntryAt : ℕ → TableEntries → Tables → Type 0
LacksEntryAt limit made t = LacksOneAt limit made.texts t.texts ⊎ LacksOneAt limit made.paths t.paths ⊎ LacksOneAt limit made.states t.states

-- one of the tables holds so many entries or more, and lacks one of these
abbrev pub IsFullFor : ℕ → TableEntries → Tables → TableFault → Type 0
IsFullFor limit made t (TableFull n) = (n ≡ limit) × LacksEntryAt limit made t
IsFullFor limit made t OutOfMemory = ⊤
