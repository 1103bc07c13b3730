use Rattle.std.proofs.Common.{◌≡◌, drop}
use Rattle.tm_theme.specs.Buckets.{with_bucket}
use Rattle.tm_theme.proofs.buckets.with_bucket.Given as goal

abbrev pub invariant-loop-place : goal.invariant-loop-place
invariant-loop-place g l =
    with_bucket l.all l.piece (g.S.Scopes.names l.above) l.found (drop l.place-index l.places) ≡ with_bucket l.all l.piece (g.S.Scopes.names l.above) l.fn.style l.places
