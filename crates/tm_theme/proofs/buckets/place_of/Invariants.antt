use Rattle.std.proofs.Common.{◌≡◌, ◌-◌, ◌≤◌, ◌++◌, take, drop, length}
use Rattle.tm_theme.specs.Buckets.{with_place}
use Rattle.tm_theme.proofs.buckets.place_of.Given as goal

abbrev pub invariant-loop-at : goal.invariant-loop-at
invariant-loop-at l = record {
  passed : take l.at l.places ++ with_place l.all l.new (drop l.at l.places) ≡ with_place l.all l.new l.places;
  within : l.at ≤ length l.places;
}

abbrev pub decreases-loop-at : goal.decreases-loop-at
decreases-loop-at l = length l.places - l.at
