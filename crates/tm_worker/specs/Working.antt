-- What contracts see of a worker, and what orders do to it.
use Rattle.std.specs.Prelude.{ℕ, Bool, false, List, length, replicate}
use Rattle.tm_defs.specs.declared.frames.FrameData.{FrameData}
use Rattle.tm_defs.specs.Tables.{Tables}
use Rattle.tm_document.specs.Held.{Held, new_held, changed_held, set_held}
use Rattle.tm_machine.specs.declared.entries.Entry.{Entry}
use Rattle.tm_machine.specs.Machine.{ChangeOrder, SettingOrder, fresh_obeyed}
use Rattle.tm_machine.specs.Machine as machine
use Rattle.tm_rebase.specs.declared.orders.Order.{Order}
use Rattle.tm_rebase.specs.declared.orders.Order.TheVariants as order

-- a document, and for each of its lines whether it is fresh: it was done, and not posted since
pub record Working (T : Type 0) : Type 0 where
  pub held : Held T
  pub open held use *
  pub fresh : List Bool

abbrev pub new_worker : {T : Type 0} → List T → (budget limit : ℕ) → List (List ℕ) → Working T
new_worker settings budget limit lines = record { held = new_held settings budget limit lines; fresh = replicate (length lines) false }

-- an order as the machine has it
abbrev pub as_machine : Order → machine.Order
as_machine (order.Change version change) = ChangeOrder version change
as_machine (order.Setting number) = SettingOrder number

-- behind a change the new lines are not fresh, and behind another setting no line is
abbrev pub obeyed_held : {T : Type 0} → Held T → Order → Held T
obeyed_held held (order.Change version change) = changed_held held change
obeyed_held held (order.Setting number) = set_held held number

abbrev pub obeyed_worker : {T : Type 0} → Working T → Order → Working T
obeyed_worker w o = record { held = obeyed_held w.held o; fresh = fresh_obeyed w.held.lines w.fresh (as_machine o) }

-- behind a turn
abbrev pub turned_worker : {T : Type 0} → Working T → List (Entry (List FrameData)) → Tables → List Bool → Working T
turned_worker w entries tables fresh = record { held = record (w.held) { entries = entries; tables = tables }; fresh = fresh }
