use Rattle.std.proofs.Common.{◌≡◌, ◌+◌, ◌-◌, ◌≤◌, drop, length}
use Rattle.tm_theme.specs.Palette.{number_of}
use Rattle.tm_theme.proofs.palette.number_of.Given as goal

abbrev pub invariant-loop-place : goal.invariant-loop-place
invariant-loop-place l = record {
  counted : l.place + number_of (drop l.place l.palette) l.colour ≡ number_of l.palette l.colour;
  within : l.place ≤ length l.palette;
}

abbrev pub decreases-loop-place : goal.decreases-loop-place
decreases-loop-place l = length l.palette - l.place
