use Rattle.std.proofs.Common.{◌≡◌, ◌<◌, ◌≤◌, ◌+◌, ◌++◌, List, length}
use Rattle.std.specs.Prelude.{reverse}
use Rattle.tm_defs.specs.declared.frames.FrameData.{FrameData}
use Rattle.tm_defs.specs.Tables.{state_at}
use Rattle.tm_state.specs.Entries.{BeginsWith}
use Rattle.tm_state.proofs.states.StateTable.diff.Given as goal

abbrev pub invariant-loop-from : goal.invariant-loop-from
invariant-loop-from l = record {
  from_low : l.from.0 < length l.self.states;
  to_low : l.to.0 < length l.self.states;
  split : (dropped : List FrameData) × (state_at l.self l.fn.a ≡ state_at l.self l.from ++ dropped) × (l.pops ≡ length dropped);
  added : state_at l.self l.fn.b ≡ state_at l.self l.to ++ reverse l.pushed.items;
  longest : (front : List FrameData) → BeginsWith (state_at l.self l.fn.a) front → BeginsWith (state_at l.self l.fn.b) front → BeginsWith (state_at l.self l.from) front × BeginsWith (state_at l.self l.to) front;
  small : l.pops + l.from.0 ≤ l.fn.a.0;
}

abbrev pub decreases-loop-from : goal.decreases-loop-from
decreases-loop-from l = l.from.0 + l.to.0
