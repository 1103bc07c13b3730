use Rattle.std.proofs.Common.{◌≡◌, ◌++◌, Some, take}
use Rattle.std.specs.Prelude.{slice_get}
use Rattle.tm_defs.specs.Tables.{GrowsWithin, state_at}
use Rattle.tm_scope.specs.Entries.{KeepsLimits}
use Rattle.tm_state.specs.Entries.{state_entries}
use Rattle.tm_state.proofs.states.StateTable.with_frames.Given as goal

abbrev pub invariant-loop-frame : goal.invariant-loop-frame
invariant-loop-frame l = record {
  at : slice_get l.self.states l.deeper.0 ≡ Some (state_at l.fn.self l.fn.state ++ take l.frame-index l.frames);
  grows : GrowsWithin (state_entries (state_at l.fn.self l.fn.state ++ l.frames)) l.fn.self l.self;
  kept : KeepsLimits l.fn.limit l.fn.self l.self;
}
