use Rattle.std.proofs.Common.{◌≡◌, drop}
use Rattle.tm_theme.specs.Palette.{has_colour}
use Rattle.tm_theme.proofs.palette.has_colour.Given as goal

abbrev pub invariant-loop-c : goal.invariant-loop-c
invariant-loop-c l = has_colour (drop l.c-index l.palette) l.colour ≡ has_colour l.palette l.colour
