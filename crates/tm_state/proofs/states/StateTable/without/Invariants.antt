use Rattle.std.proofs.Common.{◌≡◌, ◌<◌, ◌++◌, List, length}
use Rattle.tm_defs.specs.declared.frames.FrameData.{FrameData}
use Rattle.tm_defs.specs.Tables.{state_at}
use Rattle.tm_state.proofs.states.StateTable.without.Given as goal

abbrev pub invariant-loop-count : goal.invariant-loop-count
invariant-loop-count l = record {
  low : l.rest.0 < length l.self.states;
  split : (dropped : List FrameData) × (state_at l.self l.fn.state ≡ state_at l.self l.rest ++ dropped) × (length dropped ≡ l.count);
}
