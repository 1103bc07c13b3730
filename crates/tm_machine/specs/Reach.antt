-- What the lines of the texts that stood reach: the texts, scope lists and states that tokenizing
-- them from their first lines makes.
use Rattle.std.specs.Prelude.{◌≡◌, ◌⊎◌, ℕ, ◌<◌, List, [], ◌∷◌, ◌++◌, length, Some, slice_get, Contains}
use Rattle.std.specs.List.{AllByRecursion}
use Rattle.tm_defs.specs.declared.events.Step.{Step}
use Rattle.tm_defs.specs.declared.events.Step.TheVariants as step
use Rattle.tm_defs.specs.declared.frames.FrameData.{FrameData}
use Rattle.tm_defs.specs.Tables.{Tables, TableEntries, NoneTwice}
use Rattle.tm_machine.specs.Changes.{lines_changed}
use Rattle.tm_machine.specs.Documents.{Rules}
use Rattle.tm_machine.specs.Machine.{Machine}
use Rattle.tm_machine.specs.Scratch.{Tokenizing, state_from_scratch}

-- lines, with the number of the setting that stands beside them
pub record Stand : Type 0 where
  pub lines : List (List ℕ)
  pub epoch : ℕ

abbrev pub stand_in : Machine → Stand
stand_in m = record { lines = m.fore.text.lines; epoch = m.fore.epoch }

abbrev pub stand_after : Stand → Step → Stand
stand_after s (step.Edit c) = record s { lines = lines_changed s.lines c }
stand_after s (step.Setting number) = record s { epoch = number }
stand_after s _ = s

-- what stood before or after one of these steps
abbrev pub stands_of : Stand → List Step → List Stand
stands_of s [] = s ∷ []
stands_of s (x ∷ xs) = s ∷ stands_of (stand_after s x) xs

-- what line i of a stand makes
abbrev pub made_at : Rules → Stand → ℕ → List ℕ → TableEntries
made_at r s i line = let k = r.setting s.epoch in k.entries_made (state_from_scratch k s.lines i) line

-- an entry of one kind is made by a line of one of the stands
abbrev pub IsMade : {X : Type 0} → Rules → List Stand → (TableEntries → List X) → X → Type 0
IsMade r stands kind x = (s : Stand) × (i : ℕ) × (line : List ℕ) × Contains stands s × (slice_get s.lines i ≡ Some line) × Contains (kind (made_at r s i line)) x

abbrev pub ReachesText : Rules → List Stand → List ℕ → Type 0
ReachesText r stands text = IsMade r stands (λ made. made.texts) text

-- the empty scope list is reached by all
abbrev pub ReachesPath : Rules → List Stand → List (List ℕ) → Type 0
ReachesPath r stands path = (path ≡ []) ⊎ IsMade r stands (λ made. made.paths) path

-- and so is the opening state
abbrev pub ReachesState : Rules → List Stand → List FrameData → Type 0
ReachesState r stands state = (state ≡ []) ⊎ IsMade r stands (λ made. made.states) state

-- there are more than n of a kind: a list of more than n, in which none stands twice
abbrev pub HasMoreThan : {X : Type 0} → ℕ → (X → Type 0) → Type 0
HasMoreThan {X} n P = (xs : List X) × NoneTwice xs × AllByRecursion P xs × (n < length xs)

-- the reach has more than n entries of one kind
abbrev pub ReachesMoreThan : ℕ → Rules → List Stand → Type 0
ReachesMoreThan n r stands = HasMoreThan n (ReachesText r stands) ⊎ HasMoreThan n (ReachesPath r stands) ⊎ HasMoreThan n (ReachesState r stands)

-- a table holds nothing but what is reached
pub record IsWithinReach (r : Rules) (stands : List Stand) (t : Tables) : Type 0 where
  pub texts : AllByRecursion (ReachesText r stands) t.texts
  pub paths : AllByRecursion (ReachesPath r stands) t.paths
  pub states : AllByRecursion (ReachesState r stands) t.states

-- an entry of one kind is made by a line of this text, from its state from scratch
abbrev pub IsMadeIn : {X : Type 0} → Tokenizing → List (List ℕ) → (TableEntries → List X) → X → Type 0
IsMadeIn k lines kind x = (i : ℕ) × (line : List ℕ) × (slice_get lines i ≡ Some line) × Contains (kind (k.entries_made (state_from_scratch k lines i) line)) x

-- what was there stays where it was, and what came is made by lines of this text
pub record GainsFrom {X : Type 0} (k : Tokenizing) (lines : List (List ℕ)) (kind : TableEntries → List X) (old new : List X) : Type 0 where
  pub added : List X
  pub is : new ≡ old ++ added
  pub made : AllByRecursion (IsMadeIn k lines kind) added

-- the tables gain nothing but what lines of this text make
pub record GrowsByLines (k : Tokenizing) (lines : List (List ℕ)) (old new : Tables) : Type 0 where
  pub texts : GainsFrom k lines (λ made. made.texts) old.texts new.texts
  pub paths : GainsFrom k lines (λ made. made.paths) old.paths new.paths
  pub states : GainsFrom k lines (λ made. made.states) old.states new.states
  pub limit : new.limit ≡ old.limit
