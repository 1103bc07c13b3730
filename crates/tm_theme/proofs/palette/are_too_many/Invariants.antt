use Rattle.std.proofs.Common.{◌≡◌, drop}
use Rattle.tm_theme.specs.Palette.{are_too_many}
use Rattle.tm_theme.proofs.palette.are_too_many.Given as goal

abbrev pub invariant-loop-rule : goal.invariant-loop-rule
invariant-loop-rule l = are_too_many l.palette (drop l.rule-index l.rules) ≡ are_too_many l.palette l.rules
