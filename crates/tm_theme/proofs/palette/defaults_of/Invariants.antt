use Rattle.std.proofs.Common.{◌≡◌, drop}
use Rattle.tm_theme.specs.Palette.{defaults_from, defaults_of}
use Rattle.tm_theme.proofs.palette.defaults_of.Given as goal

abbrev pub invariant-loop-rule : goal.invariant-loop-rule
invariant-loop-rule l = defaults_from l.defaults (drop l.rule-index l.rules) ≡ defaults_of l.rules
