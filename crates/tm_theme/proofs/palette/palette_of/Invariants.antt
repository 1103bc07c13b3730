use Rattle.std.proofs.Common.{◌≡◌, drop}
use Rattle.tm_theme.specs.Palette.{palette_from, palette_of}
use Rattle.tm_theme.proofs.palette.palette_of.Given as goal

abbrev pub invariant-loop-rule : goal.invariant-loop-rule
invariant-loop-rule l = palette_from l.palette.items (drop l.rule-index l.rules) ≡ palette_of l.defaults l.rules
