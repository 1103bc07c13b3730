use Rattle.std.proofs.Common.{◌≤◌, drop, length}
use Rattle.tm_theme.proofs.Lookups.{Knows}
use Rattle.tm_theme.proofs.buckets.buckets_of.Given as goal

abbrev pub invariant-loop-place : goal.invariant-loop-place
invariant-loop-place l = record {
  known : Knows l.all (drop l.place l.all) l.buckets.items;
  within : l.place ≤ length l.all;
}

abbrev pub decreases-loop-place : goal.decreases-loop-place
decreases-loop-place l = l.place
