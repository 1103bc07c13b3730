-- When a worker can do an order, and why one is refused.
use Rattle.std.specs.Prelude.{◌≡◌, ◌≢◌, suc, ◌<◌, ◌≤◌, length}
use Rattle.tm_defs.specs.declared.changes.ChangeFault.TheVariants as change
use Rattle.tm_machine.specs.Changes.{lines_changed}
use Rattle.tm_machine.specs.Places.{IsIn}
use Rattle.tm_machine.specs.Sizes.{Fits}
use Rattle.tm_rebase.specs.declared.orders.Order.{Order}
use Rattle.tm_rebase.specs.declared.orders.Order.TheVariants as order
use Rattle.tm_text.specs.Texts.{IsChangeFault}
use Rattle.tm_worker.specs.declared.worker.OrderFault.{OrderFault}
use Rattle.tm_worker.specs.declared.worker.OrderFault.TheVariants.{Gap, BadPlace, TextFull, NoSetting, OutOfMemory}
use Rattle.tm_worker.specs.Working.{Working}

-- the change is the next one, its places are in the text, and what it makes fits; or the setting is there
abbrev pub CanObey : {T : Type 0} → Working T → Order → Type 0
CanObey w (order.Change version c) = (version ≡ suc w.held.version) × IsIn w.held.lines c × Fits (lines_changed w.held.lines c)
CanObey w (order.Setting number) = number < length w.held.settings

-- the version is looked at first, then what the text says of the change
abbrev pub IsOrderCause : {T : Type 0} → Working T → Order → OrderFault → Type 0
IsOrderCause w (order.Change version c) (Gap worker order) = (version ≢ suc w.held.version) × (worker ≡ w.held.version) × (order ≡ version)
IsOrderCause w (order.Change version c) (BadPlace place) = (version ≡ suc w.held.version) × IsChangeFault w.held.lines c (change.BadPlace place)
IsOrderCause w (order.Change version c) (TextFull count) = (version ≡ suc w.held.version) × IsChangeFault w.held.lines c (change.TextFull count)
IsOrderCause w (order.Change version c) (OutOfMemory o) = (version ≡ suc w.held.version) × (o ≡ order.Change version c)
IsOrderCause w (order.Setting number) (NoSetting asked count) = (length w.held.settings ≤ number) × (asked ≡ number) × (count ≡ length w.held.settings)
IsOrderCause w _ _ = ⊥
