use Rattle.std.proofs.Common.{◌≤◌, ◌≡◌, ◌++◌, drop, List, ℕ}
use Rattle.tm_outside.specs.Causes.{Takes}
use Rattle.tm_app.specs.Printed.{shown_from, shown}
use Rattle.tm_app.proofs.play.show.Given as goal

abbrev pub invariant-loop-i : goal.invariant-loop-i
invariant-loop-i g l = record {
  bytes : List ℕ;
  takes : Takes (g.S.Sink.taken l.fn.out) (g.S.Sink.taken l.out) bytes;
  rest : bytes ++ shown_from l.model.entries l.i (drop l.i l.model.entries) ≡ shown l.model.entries;
  never_falls : g.S.Sink.faults l.fn.out ≤ g.S.Sink.faults l.out;
}
