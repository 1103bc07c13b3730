-- What contracts see of a batch, and its items one by one.
use Rattle.std.specs.Prelude.{ℕ, suc, ◌-◌, List, [], ◌∷◌, ◌++◌, length, take, map, sum}
use Rattle.std.specs.Arc.{arc_value}
use Rattle.tm_defs.specs.declared.frames.Delta.{Delta}
use Rattle.tm_defs.specs.declared.frames.FrameData.{FrameData}
use Rattle.tm_machine.specs.Accepts.{Made}
use Rattle.tm_rebase.specs.declared.batches.Item.{Item}
use Rattle.tm_rebase.specs.declared.batches.Run.{Run}

pub record Posted : Type 0 where
  pub epoch : ℕ
  pub version : ℕ
  pub runs : List Run

-- the state to which a delta leads
abbrev pub applied : List FrameData → Delta → List FrameData
applied state delta = take (length state - delta.pops) state ++ delta.pushed

-- how many items the runs have
abbrev pub count_of_items : List Run → ℕ
count_of_items runs = sum (map (λ (run : Run). length run.items) runs)

-- what was made of a line, with its number in the text of the batch's version
pub record Placed (S : Type 0) : Type 0 where
  pub place : ℕ
  pub made : Made S
  pub open made use *

-- items of neighbouring lines, of which the first has a number and begins in a state
abbrev pub placed_from : ℕ → List FrameData → List Item → List (Placed (List FrameData))
placed_from i state [] = []
placed_from i state (x ∷ xs) =
    record { place = i; made = record { line = arc_value x.line; start = state; tokens = x.tokens; end = applied state x.delta } }
    ∷ placed_from (suc i) (applied state x.delta) xs

abbrev pub items_of_runs : List Run → List (Placed (List FrameData))
items_of_runs [] = []
items_of_runs (run ∷ runs) = placed_from run.first run.start run.items ++ items_of_runs runs

-- the items of a batch one by one, each with its line and the states before and behind it
abbrev pub items_of_batch : Posted → List (Placed (List FrameData))
items_of_batch batch = items_of_runs batch.runs
