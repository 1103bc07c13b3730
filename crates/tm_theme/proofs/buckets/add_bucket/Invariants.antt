use Rattle.std.proofs.Common.{◌≡◌, ◌++◌, drop}
use Rattle.tm_theme.specs.Places.{bucket_places}
use Rattle.tm_theme.proofs.buckets.add_bucket.Given as goal

abbrev pub invariant-loop-place : goal.invariant-loop-place
invariant-loop-place l = l.done.items ++ bucket_places l.all l.piece (drop l.place-index l.places) ≡ l.initial.done.items ++ bucket_places l.all l.piece l.places
