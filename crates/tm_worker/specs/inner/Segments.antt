-- What is posted of neighbouring lines that are all fresh.
use Rattle.std.specs.Prelude.{ℕ, suc, ◌+◌, ◌-◌, ◌<◌, ◌≤◌, List, [], ◌∷◌, ◌++◌, length, take, drop, Option}
use Rattle.tm_defs.specs.declared.frames.FrameData.{FrameData}
use Rattle.tm_machine.specs.declared.entries.Entry.{Entry}
use Rattle.tm_machine.specs.Entries.{start_at}
use Rattle.tm_machine.specs.Turns.{opening}
use Rattle.tm_rebase.specs.Batches.{Placed, applied}
use Rattle.tm_rebase.specs.declared.batches.Item.{Item}
use Rattle.tm_rebase.specs.declared.batches.Run.{Run}
use Rattle.tm_store.specs.declared.spans.Span.{Span}
use Rattle.tm_worker.specs.Posted.{placed_if}

abbrev pub good_placed : ℕ → (before : Option (List FrameData)) → List (List ℕ) → List (Entry (List FrameData)) → List (Placed (List FrameData))
good_placed i before (line ∷ lines) (e ∷ es) = placed_if e.good i line before e.tokens e.end ++ good_placed (suc i) e.end lines es
good_placed i before _ _ = []

-- the lines from one to the one before another
abbrev pub segment : List (List ℕ) → List (Entry (List FrameData)) → ℕ → ℕ → List (Placed (List FrameData))
segment lines es a b = good_placed a (start_at opening es a) (take (b - a) (drop a lines)) (take (b - a) (drop a es))

abbrev pub segments : List (List ℕ) → List (Entry (List FrameData)) → List Span → List (Placed (List FrameData))
segments lines es [] = []
segments lines es (r ∷ rs) = segment lines es r.first r.end ++ segments lines es rs

-- the state behind items
abbrev pub state_behind : List FrameData → List Item → List FrameData
state_behind state [] = state
state_behind state (x ∷ xs) = state_behind (applied state x.delta) xs

-- runs with a line between each two, and the last one ends before a line
abbrev pub AreUpTo : ℕ → List Run → ℕ → Type 0
AreUpTo first [] last = first ≤ last
AreUpTo first (run ∷ runs) last = (first ≤ run.first) × (0 < length run.items) × AreUpTo (suc (run.first + length run.items)) runs last
