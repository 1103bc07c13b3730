use Rattle.std.proofs.Common.{◌≡◌, arith, subst, min}
use Rattle.tm_defs.specs.Tables.{state_at}
use Rattle.tm_defs.specs.declared.tables.TableFault.TheVariants.{TableFull}
use Rattle.tm_scope.specs.Entries.{IsFullFor}
use Rattle.tm_state.specs.Entries.{state_entries}
use Rattle.tm_state.specs.Deltas.{applied}
use Rattle.tm_state.proofs.Whole.{on-rest}
use Rattle.tm_state.proofs.states.StateTable.apply.Goals as goal

pub returns-in-Err-TableFull-clause-fault : goal.returns-in-Err-TableFull-clause-fault
returns-in-Err-TableFull-clause-fault c =
    let e : c.min-limit.result ≡ min c.args.limit c.args.self.now.limit = omega (arith, c.min-limit.ensures, c.limit.ensures) in
    let full = rw c.in-Err-TableFull.field-0-is at c.in-Err-TableFull.ensures.full in
    subst (λ n. IsFullFor n (state_entries (applied (state_at c.args.self.now c.args.a) c.args.delta.now)) c.with_frames.new.self (TableFull c.in-Err-TableFull.count)) e
    (on-rest (state_at c.args.self.now c.args.a) (state_at c.args.self.now c.in-Ok.base) c.as_slice.result.now c.args.delta.now c.in-Ok.ensures.ok c.as_slice.ensures
    (λ s. IsFullFor c.min-limit.result (state_entries s) c.with_frames.new.self (TableFull c.in-Err-TableFull.count)) full)
