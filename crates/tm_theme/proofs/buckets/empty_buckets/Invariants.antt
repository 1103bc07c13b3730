use Rattle.std.proofs.Common.{◌≡◌, ◌≤◌, ◌-◌, []}
use Rattle.std.specs.Prelude.{replicate}
use Rattle.tm_theme.proofs.buckets.empty_buckets.Given as goal

abbrev pub invariant-loop-made : goal.invariant-loop-made
invariant-loop-made l = record {
  empty : l.buckets.items ≡ replicate l.made [];
  within : l.made ≤ l.count;
}

abbrev pub decreases-loop-made : goal.decreases-loop-made
decreases-loop-made l = l.count - l.made
