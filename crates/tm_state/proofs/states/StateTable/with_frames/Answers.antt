use Rattle.std.proofs.Common.{◌∙◌, ◌++◌, ap, sym, [], Some, take}
use Rattle.std.proofs.lemmas.List.{append-nil}
use Rattle.std.proofs.lemmas.Option.{slice_get-get_or, slice_get_within}
use Rattle.tm_defs.specs.Tables.{state_at}
use Rattle.tm_defs.proofs.Growth.{tables-refl}
use Rattle.tm_scope.proofs.Limits.{limits-refl, limits-trans}
use Rattle.tm_state.specs.Entries.{state_entries}
use Rattle.tm_state.proofs.Parts.{next-ok, next-grows, next-full, next-absent}
use Rattle.tm_state.proofs.states.StateTable.with_frames.Goals as goal

pub loop-frame-init : goal.loop-frame-init
loop-frame-init c = record {
  at = slice_get-get_or c.args.self.now.states c.args.state.0 [] c.requires.state ∙ ap Some (sym (append-nil (state_at c.args.self.now c.args.state)));
  grows = tables-refl (state_entries (state_at c.args.self.now c.args.state ++ c.args.frames.now)) c.args.self.now;
  kept = limits-refl c.args.limit c.args.self.now;
}

pub with_frame-requires-clause-parent : goal.with_frame-requires-clause-parent
with_frame-requires-clause-parent c = slice_get_within c.loop-frame.self.states c.loop-frame.deeper.0 (state_at c.args.self.now c.args.state ++ take c.loop-frame.frame-index c.args.frames.now) c.loop-frame.invariant.at

pub returns-in-Err-clause-grows : goal.returns-in-Err-clause-grows
returns-in-Err-clause-grows c =
    next-grows (state_at c.args.self.now c.args.state) c.args.frames.now c.loop-frame.frame-index c.frame-item.result c.loop-frame-test.true c.frame-item.is c.args.self.now c.loop-frame.self c.loop-frame.deeper c.loop-frame.invariant.at
    c.with_frame.new.self c.loop-frame.invariant.grows c.with_frame.ensures.grows

pub returns-in-Err-clause-absent : goal.returns-in-Err-clause-absent
returns-in-Err-clause-absent c =
    next-absent (state_at c.args.self.now c.args.state) c.args.frames.now c.loop-frame.frame-index c.frame-item.result c.loop-frame-test.true c.frame-item.is c.args.self.now c.loop-frame.self c.loop-frame.deeper c.loop-frame.invariant.at
    c.prove_closed.ensures.entries c.loop-frame.invariant.grows c.in-Err.ensures.absent

pub returns-in-Err-clause-full : goal.returns-in-Err-clause-full
returns-in-Err-clause-full c =
    next-full (state_at c.args.self.now c.args.state) c.args.frames.now c.loop-frame.frame-index c.frame-item.result c.loop-frame-test.true c.frame-item.is c.args.self.now c.loop-frame.self c.loop-frame.deeper c.loop-frame.invariant.at
    c.args.limit c.with_frame.new.self c.in-Err.fault c.in-Err.ensures.full

pub loop-frame-preserved : goal.loop-frame-preserved
loop-frame-preserved c = record {
  at = next-ok (state_at c.args.self.now c.args.state) c.args.frames.now c.loop-frame.frame-index c.frame-item.result c.loop-frame-test.true c.frame-item.is c.args.self.now c.loop-frame.self c.loop-frame.deeper c.loop-frame.invariant.at
      c.with_frame.new.self c.in-Ok.next c.in-Ok.ensures.ok;
  grows = next-grows (state_at c.args.self.now c.args.state) c.args.frames.now c.loop-frame.frame-index c.frame-item.result c.loop-frame-test.true c.frame-item.is c.args.self.now c.loop-frame.self c.loop-frame.deeper c.loop-frame.invariant.at
      c.with_frame.new.self c.loop-frame.invariant.grows c.with_frame.ensures.grows;
  kept = limits-trans c.args.limit c.args.self.now c.loop-frame.self c.with_frame.new.self c.loop-frame.invariant.kept c.with_frame.ensures.limit;
}
