use Rattle.std.proofs.Common.{◌≡◌, ◌++◌, drop, false}
use Rattle.tm_theme.specs.Palette.{all_alternatives, are_too_many}
use Rattle.tm_theme.proofs.palette.all_alternatives.Given as goal

abbrev pub invariant-loop-rule : goal.invariant-loop-rule
invariant-loop-rule l = record {
  same : l.done.items ++ all_alternatives l.palette (drop l.rule-index l.rules) ≡ all_alternatives l.palette l.rules;
  few : are_too_many l.palette (drop l.rule-index l.rules) ≡ false;
}
