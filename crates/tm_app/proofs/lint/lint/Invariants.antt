use Rattle.std.proofs.Common.{◌≤◌, ◌≡◌, ◌++◌, drop, List, ℕ}
use Rattle.tm_outside.specs.Causes.{Takes}
use Rattle.tm_app.specs.Lint.{lint_from, lint_text}
use Rattle.tm_app.proofs.lint.lint.Given as goal

abbrev pub invariant-loop-number : goal.invariant-loop-number
invariant-loop-number g l = record {
  bytes : List ℕ;
  takes : Takes (g.S.Sink.taken l.fn.out) (g.S.Sink.taken l.out) bytes;
  rest : bytes ++ lint_from l.number (drop l.number l.settings) ≡ lint_text l.settings;
  never_falls : g.S.Sink.faults l.fn.out ≤ g.S.Sink.faults l.out;
}
