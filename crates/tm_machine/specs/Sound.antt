-- What holds of the machine after any steps.
use Rattle.std.specs.Prelude.{◌≡◌, ℕ, suc, ◌<◌, ◌≤◌, List, [], ◌∷◌, Some, slice_get}
use Rattle.std.specs.List.{AllByRecursion}
use Rattle.tm_machine.specs.Births.{place_of}
use Rattle.tm_machine.specs.Changes.{BornText, IsBorn, changed, lines_changed}
use Rattle.tm_machine.specs.Documents.{Rules, HasRightEntries}
use Rattle.tm_machine.specs.Machine.{Side, Order, ChangeOrder, SettingOrder, Item, Batch, Machine, seen}
use Rattle.tm_machine.specs.Places.{IsIn}
use Rattle.tm_machine.specs.Scratch.{Tokenizing}
use Rattle.tm_machine.specs.Sizes.{Fits}

pub record IsSoundSide (r : Rules) (s : Side) : Type 0 where
  pub born : IsBorn s.text
  pub right : HasRightEntries r (seen s)

-- the text and the setting that orders make
abbrev pub text_obeyed : BornText → List Order → BornText
text_obeyed t [] = t
text_obeyed t (ChangeOrder version c ∷ os) = text_obeyed (changed t c) os
text_obeyed t (SettingOrder number ∷ os) = text_obeyed t os

abbrev pub epoch_obeyed : ℕ → List Order → ℕ
epoch_obeyed epoch [] = epoch
epoch_obeyed epoch (ChangeOrder version c ∷ os) = epoch_obeyed epoch os
epoch_obeyed epoch (SettingOrder number ∷ os) = epoch_obeyed number os

-- each change of the orders is in the text that it meets, makes one that fits, and the next version; each number is a setting's
abbrev pub CanObey : Rules → BornText → List Order → Type 0
CanObey r t [] = Unit {0}
CanObey r t (ChangeOrder version c ∷ os) = IsIn t.lines c × Fits (lines_changed t.lines c) × (version ≡ suc t.version) × CanObey r (changed t c) os
CanObey r t (SettingOrder number ∷ os) = (number < r.settings) × CanObey r t os

-- an item is what its line gives from its start; where its birth still stands, its line does
pub record IsSoundItem (k : Tokenizing) (t : BornText) (x : Item) : Type 0 where
  pub tokens : x.tokens ≡ (k.tokenized x.start x.line).tokens
  pub end : x.end ≡ (k.tokenized x.start x.line).end
  pub version : x.birth.version ≤ t.version
  pub line : (i : ℕ) → place_of t.births x.birth ≡ Some i → slice_get t.lines i ≡ Some x.line

abbrev pub IsSoundBatch : Rules → BornText → Batch → Type 0
IsSoundBatch r t b = AllByRecursion (IsSoundItem (r.setting b.epoch) t) b.items

-- both sides are sound, the orders lead the worker to the foreground's text and setting, and batches are right
pub record IsSound (r : Rules) (m : Machine) : Type 0 where
  pub fore : IsSoundSide r m.fore
  pub back : IsSoundSide r m.back
  pub orders : CanObey r m.back.text m.orders
  pub text : text_obeyed m.back.text m.orders ≡ m.fore.text
  pub epoch : epoch_obeyed m.back.epoch m.orders ≡ m.fore.epoch
  pub batches : AllByRecursion (IsSoundBatch r m.fore.text) m.batches
