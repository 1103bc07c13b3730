use Rattle.std.proofs.Common.{◌≡◌, arith, subst, min, Some, Contains}
use Rattle.std.specs.Prelude.{slice_get, IfOk, IfErr, OnErr}
use Rattle.tm_defs.specs.Tables.{GrowsWithin}
use Rattle.tm_scope.specs.Entries.{IsFullFor, KeepsLimits}
use Rattle.tm_state.specs.Entries.{state_entries}
use Rattle.tm_state.proofs.Whole.{on-opening}
use Rattle.tm_state.proofs.Known.{known-same, taken-room}
use Rattle.tm_state.proofs.Room.{full-room}
use Rattle.tm_state.proofs.states.StateTable.put.Goals as goal

pub returns-clause-ok : goal.returns-clause-ok
returns-clause-ok c =
    on-opening c.args.self.now c.prove_known.ensures c.as_slice.result.now c.args.state.now c.as_slice.ensures (λ s. IfOk c.with_frames-result.result (λ id. slice_get c.with_frames-result.new.self.states id.0 ≡ Some s)) c.with_frames-result.ensures.ok

pub returns-clause-grows : goal.returns-clause-grows
returns-clause-grows c =
    on-opening c.args.self.now c.prove_known.ensures c.as_slice.result.now c.args.state.now c.as_slice.ensures (λ s. GrowsWithin (state_entries s) c.args.self.now c.with_frames-result.new.self) c.with_frames-result.ensures.grows

pub returns-clause-absent : goal.returns-clause-absent
returns-clause-absent c =
    on-opening c.args.self.now c.prove_known.ensures c.as_slice.result.now c.args.state.now c.as_slice.ensures (λ s. OnErr c.with_frames-result.result (Contains c.args.self.now.states s → ⊥)) c.with_frames-result.ensures.absent

pub returns-clause-full : goal.returns-clause-full
returns-clause-full c =
    let e : c.min-limit.result ≡ min c.args.limit c.args.self.now.limit = omega (arith, c.min-limit.ensures, c.limit.ensures) in
    subst (λ n. IfErr c.with_frames-result.result (IsFullFor n (state_entries c.args.state.now) c.with_frames-result.new.self)) e
    (on-opening c.args.self.now c.prove_known.ensures c.as_slice.result.now c.args.state.now c.as_slice.ensures (λ s. IfErr c.with_frames-result.result (IsFullFor c.min-limit.result (state_entries s) c.with_frames-result.new.self)) c.with_frames-result.ensures.full)

pub returns-clause-room : goal.returns-clause-room
returns-clause-room c =
    let e : c.min-limit.result ≡ min c.args.limit c.args.self.now.limit = omega (arith, c.min-limit.ensures, c.limit.ensures) in
    let kept = subst (λ n. KeepsLimits n c.args.self.now c.with_frames-result.new.self) e c.with_frames-result.ensures.limit in
    let grown = on-opening c.args.self.now c.prove_known.ensures c.as_slice.result.now c.args.state.now c.as_slice.ensures (λ s. GrowsWithin (state_entries s) c.args.self.now c.with_frames-result.new.self) c.with_frames-result.ensures.grows in
    let at = on-opening c.args.self.now c.prove_known.ensures c.as_slice.result.now c.args.state.now c.as_slice.ensures (λ s. IfOk c.with_frames-result.result (λ id. slice_get c.with_frames-result.new.self.states id.0 ≡ Some s)) c.with_frames-result.ensures.ok in
    taken-room c.with_frames-result.result c.args.state.now (min c.args.limit c.args.self.now.limit) c.args.self.now c.with_frames-result.new.self grown c.prove_closed-2.ensures.entries kept at

pub returns-clause-known : goal.returns-clause-known
returns-clause-known c =
    let grown = on-opening c.args.self.now c.prove_known.ensures c.as_slice.result.now c.args.state.now c.as_slice.ensures (λ s. GrowsWithin (state_entries s) c.args.self.now c.with_frames-result.new.self) c.with_frames-result.ensures.grows in
    known-same c.args.state.now c.args.self.now c.with_frames-result.new.self grown c.prove_closed.ensures.entries c.prove_known-2.ensures

pub returns-clause-no_room : goal.returns-clause-no_room
returns-clause-no_room c =
    let grown = on-opening c.args.self.now c.prove_known.ensures c.as_slice.result.now c.args.state.now c.as_slice.ensures (λ s. GrowsWithin (state_entries s) c.args.self.now c.with_frames-result.new.self) c.with_frames-result.ensures.grows in
    full-room c.with_frames-result.result (min c.args.limit c.args.self.now.limit) (min c.args.limit c.args.self.now.limit) (state_entries c.args.state.now) c.args.self.now c.with_frames-result.new.self grown c.prove_known-2.ensures (returns-clause-full c)
