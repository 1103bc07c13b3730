use Rattle.std.proofs.Common.{◌≤◌, ◌≡◌, ◌++◌, drop, List, ℕ}
use Rattle.tm_outside.specs.Causes.{Takes}
use Rattle.tm_app.specs.Lint.{unread_texts}
use Rattle.tm_app.proofs.lint.write_unread.Given as goal

abbrev pub invariant-loop-unread : goal.invariant-loop-unread
invariant-loop-unread g l = record {
  bytes : List ℕ;
  takes : Takes (g.S.Sink.taken l.fn.out) (g.S.Sink.taken l.out) bytes;
  rest : bytes ++ unread_texts l.number (drop l.unread-index l.all) ≡ unread_texts l.number l.all;
  never_falls : g.S.Sink.faults l.fn.out ≤ g.S.Sink.faults l.out;
}
