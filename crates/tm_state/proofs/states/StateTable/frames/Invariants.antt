use Rattle.std.proofs.Common.{◌≡◌, ◌<◌, ◌++◌, length}
use Rattle.std.specs.Prelude.{reverse}
use Rattle.tm_defs.specs.Tables.{state_at}
use Rattle.tm_state.proofs.states.StateTable.frames.Given as goal

abbrev pub invariant-loop-rest : goal.invariant-loop-rest
invariant-loop-rest l = record {
  low : l.rest.0 < length l.self.states;
  all : state_at l.self l.rest ++ reverse l.frames.items ≡ state_at l.self l.fn.state;
}

abbrev pub decreases-loop-rest : goal.decreases-loop-rest
decreases-loop-rest l = l.rest.0
