-- What a worker posts.
use Rattle.std.specs.Prelude.{◌≡◌, ℕ, suc, ◌+◌, ◌<◌, ◌≤◌, Bool, true, ◌&&◌, List, [], ◌∷◌, ◌++◌, length, Option, Some}
use Rattle.tm_defs.specs.declared.frames.FrameData.{FrameData}
use Rattle.tm_defs.specs.declared.tokens.Token.{Token}
use Rattle.tm_machine.specs.declared.entries.Entry.{Entry}
use Rattle.tm_machine.specs.Turns.{opening}
use Rattle.tm_rebase.specs.Batches.{Placed, Posted, items_of_batch}
use Rattle.tm_rebase.specs.declared.batches.Run.{Run}
use Rattle.tm_worker.specs.Working.{Working}

-- the lines that are fresh and good, in text order, where the first of them has a number and begins in a state
abbrev pub placed_if : Bool → ℕ → List ℕ → (start : Option (List FrameData)) → (tokens : Option (List Token)) → (end : Option (List FrameData)) → List (Placed (List FrameData))
placed_if true i line (Some start) (Some tokens) (Some end) = record { place = i; made = record { line = line; start = start; tokens = tokens; end = end } } ∷ []
placed_if _ _ _ _ _ _ = []

abbrev pub fresh_placed : ℕ → (before : Option (List FrameData)) → List (List ℕ) → List (Entry (List FrameData)) → List Bool → List (Placed (List FrameData))
fresh_placed i before (line ∷ lines) (e ∷ es) (f ∷ fs) = placed_if (f && e.good) i line before e.tokens e.end ++ fresh_placed (suc i) e.end lines es fs
fresh_placed i before _ _ _ = []

abbrev pub items_to_post : {T : Type 0} → Working T → List (Placed (List FrameData))
items_to_post w = fresh_placed 0 opening w.held.lines w.held.entries w.fresh

-- no run is empty, and between two runs there is a line
abbrev pub AreApart : ℕ → List Run → Type 0
AreApart first [] = Unit {0}
AreApart first (run ∷ runs) = (first ≤ run.first) × (0 < length run.items) × AreApart (suc (run.first + length run.items)) runs

-- a batch has these lines, of which there is one at least, in runs that are as long as can be
pub record IsPosted {T : Type 0} (w : Working T) (batch : Posted) : Type 0 where
  pub epoch : batch.epoch ≡ w.held.epoch
  pub version : batch.version ≡ w.held.version
  pub items : items_of_batch batch ≡ items_to_post w
  pub some : 0 < length (items_of_batch batch)
  pub apart : AreApart 0 batch.runs
