-- When a batch is right for a list of settings.
use Rattle.std.specs.Prelude.{◌≡◌, ℕ, ◌+◌, ◌<◌, ◌≤◌, ◌^◌, List, [], ◌∷◌, length, Some, slice_get}
use Rattle.std.specs.List.{AllByRecursion}
use Rattle.std.specs.Arc.{arc_value}
use Rattle.tm_defs.specs.Tokenizer.{Tokenized}
use Rattle.tm_defs.specs.declared.frames.FrameData.{FrameData}
use Rattle.tm_rebase.specs.declared.batches.Item.{Item}
use Rattle.tm_rebase.specs.declared.batches.Run.{Run}
use Rattle.tm_rebase.specs.Batches.{Posted, applied, count_of_items}

module _ (tokenized : List FrameData → List ℕ → Tokenized) where
  -- an item has what tokenizing its line gives from the state before it: the tokens, and by its delta the end
  pub record IsRightItem (state : List FrameData) (x : Item) : Type 0 where
    pub tokens : x.tokens ≡ (tokenized state (arc_value x.line)).tokens
    pub pops : x.delta.pops ≤ length state
    pub end : applied state x.delta ≡ (tokenized state (arc_value x.line)).end

  -- the first item begins in this state, and each later one in the end of the item before it
  abbrev pub AreRightItems : List FrameData → List Item → Type 0
  AreRightItems state [] = Unit {0}
  AreRightItems state (x ∷ xs) = IsRightItem state x × AreRightItems (applied state x.delta) xs

  pub record IsRightRun (run : Run) : Type 0 where
    pub items : AreRightItems run.start run.items
    pub lines : run.first + length run.items < 2 ^ 31

-- the epoch is that of a setting, each item is what this setting gives, and the items are few
pub record IsRightBatch {P : Type 0} (tokenized : P → List FrameData → List ℕ → Tokenized) (settings : List P) (batch : Posted) : Type 0 where
  pub setting : P
  pub is_setting : slice_get settings batch.epoch ≡ Some setting
  pub runs : AllByRecursion (IsRightRun (tokenized setting)) batch.runs
  pub few : count_of_items batch.runs < 2 ^ 31
