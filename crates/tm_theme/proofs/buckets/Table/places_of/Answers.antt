use Rattle.std.proofs.Common.{◌≡◌, ◌+◌, length, subst}
use Rattle.tm_theme.specs.Places.{scope_places, AreFor}
use Rattle.tm_theme.proofs.Known.{places-for}
use Rattle.tm_theme.proofs.buckets.Table.places_of.Goals as goal

pub returns : goal.returns
returns c =
    let all = c.self.inside.all.items in
    let buckets = c.self.inside.buckets.items in
    let scope = c.args.scope.now in
    let a = c.as_slice.ensures.value in
    let b = c.as_slice-2.ensures.value in
    let s = c.as_slice-3.ensures in
    let e = c.in_ok-places.ensures in
    let same : c.in_ok-places.places.items ≡ scope_places all buckets scope (length scope + 1) = cc in
    subst (λ all. AreFor all scope c.in_ok-places.places.items) c.self.view_is (places-for all buckets scope c.in_ok-places.places.items c.self.invariant same)
