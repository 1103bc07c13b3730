use Rattle.std.proofs.Common.{◌≡◌, ◌+◌, ◌≤◌, drop}
use Rattle.tm_selector.specs.Syntax.{fitting}
use Rattle.tm_selector.specs.declared.syntax.Behind.TheVariants.{Start}
use Rattle.tm_selector.proofs.syntax.fitting.Given as goal

abbrev pub invariant-loop-place : goal.invariant-loop-place
invariant-loop-place l = record {
  counted : l.place + fitting l.behind l.groups (drop l.place l.tokens) ≡ fitting Start 0 l.tokens;
  within : l.groups ≤ l.place;
}
