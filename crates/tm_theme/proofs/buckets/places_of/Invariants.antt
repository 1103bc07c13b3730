use Rattle.std.proofs.Common.{◌≡◌, ◌+◌, ◌≤◌, ◌++◌, length}
use Rattle.tm_theme.specs.Places.{scope_places}
use Rattle.tm_theme.proofs.buckets.places_of.Given as goal

abbrev pub invariant-loop-end : goal.invariant-loop-end
invariant-loop-end l = record {
  rest : l.done.items ++ scope_places l.all l.buckets l.scope l.end ≡ scope_places l.all l.buckets l.scope (length l.scope + 1);
  within : l.end ≤ length l.scope + 1;
}

abbrev pub decreases-loop-end : goal.decreases-loop-end
decreases-loop-end l = l.end
