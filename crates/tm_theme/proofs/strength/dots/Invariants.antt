use Rattle.std.proofs.Common.{◌≡◌, ◌+◌, ◌≤◌, drop, length}
use Rattle.tm_theme.specs.Style.{dots}
use Rattle.tm_theme.proofs.strength.dots.Given as goal

abbrev pub invariant-loop-place : goal.invariant-loop-place
invariant-loop-place l = record {
  counted : l.count ≡ dots (drop l.place l.word);
  within : l.place ≤ length l.word;
  few : l.count + l.place ≤ length l.word;
}

abbrev pub decreases-loop-place : goal.decreases-loop-place
decreases-loop-place l = l.place
