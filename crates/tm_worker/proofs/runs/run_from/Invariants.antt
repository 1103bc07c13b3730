use Rattle.std.proofs.Common.{◌≡◌, ◌+◌, ◌-◌, ◌<◌, ◌≤◌, List, Some, length}
use Rattle.tm_defs.specs.Tables.{state_at}
use Rattle.tm_defs.specs.declared.frames.FrameData.{FrameData}
use Rattle.tm_document.specs.Held.{setting_now}
use Rattle.tm_machine.specs.Entries.{start_at}
use Rattle.tm_machine.specs.Turns.{opening}
use Rattle.tm_worker.proofs.RunSteps.{RunSoFar}
use Rattle.tm_worker.proofs.runs.run_from.Given as goal

abbrev pub invariant-lines : goal.invariant-lines
invariant-lines g l = record {
  run : (s : List FrameData) → start_at opening l.document.entries l.first ≡ Some s →
      RunSoFar (setting_now g.T.LineTok.plain g.T.LineTok.tokenized g.T.LineTok.plain_cost g.T.LineTok.entries_made l.document).tokenized l.document.lines l.document.entries l.document.tables l.first l.end l.at s l.items.items l.state;
  begins : start_at opening l.document.entries l.at ≡ Some (state_at l.document.tables l.state);
  known : l.state.0 < length l.document.tables.states;
  count : l.at ≡ l.first + length l.items.items;
  within : l.at ≤ l.end;
}

abbrev pub decreases-lines : goal.decreases-lines
decreases-lines g l = l.end - l.at
