use Rattle.std.proofs.Common.{◌≡◌, ◌-◌, ◌≤◌, drop, length}
use Rattle.tm_theme.specs.Style.{is_weaker}
use Rattle.tm_theme.proofs.strength.is_weaker.Given as goal

abbrev pub invariant-loop-place : goal.invariant-loop-place
invariant-loop-place l = record {
  same : is_weaker (drop l.place l.words) (drop l.place l.others) ≡ is_weaker l.words l.others;
  within : l.place ≤ length l.words;
  within_others : l.place ≤ length l.others;
}

abbrev pub decreases-loop-place : goal.decreases-loop-place
decreases-loop-place l = length l.words - l.place
