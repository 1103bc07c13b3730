use Rattle.std.proofs.Common.{◌≡◌, drop}
use Rattle.tm_theme.specs.Buckets.{unset}
use Rattle.tm_theme.specs.Places.{with_known}
use Rattle.tm_theme.proofs.buckets.known_style.Given as goal

abbrev pub invariant-loop-place : goal.invariant-loop-place
invariant-loop-place g l =
    with_known l.all (g.S.Scopes.names l.above) l.style (drop l.place-index l.places) ≡ with_known l.all (g.S.Scopes.names l.above) unset l.places
