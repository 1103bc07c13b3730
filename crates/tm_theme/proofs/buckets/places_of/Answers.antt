use Rattle.std.proofs.Common.{◌-◌, ◌++◌, ap, sym, ◌∙◌, arith, append_assoc}
use Rattle.tm_theme.specs.Places.{piece_places, scope_places}
use Rattle.tm_theme.proofs.Known.{places-step}
use Rattle.tm_theme.proofs.buckets.places_of.Goals as goal

pub loop-end-preserved : goal.loop-end-preserved
loop-end-preserved c =
    let all = c.args.all.now in
    let buckets = c.args.buckets.now in
    let scope = c.args.scope.now in
    record {
      rest =
          ap (λ done. done ++ scope_places all buckets scope (c.loop-end.end - 1)) c.in_ok-add_piece.ensures
          ∙ append_assoc c.loop-end.done.items (piece_places all buckets scope (c.loop-end.end - 1)) (scope_places all buckets scope (c.loop-end.end - 1))
          ∙ sym (ap (λ more. c.loop-end.done.items ++ more) (places-step all buckets scope c.loop-end.end c.loop-end-test.true))
          ∙ c.loop-end.invariant.rest;
      within = omega (arith, c.loop-end.invariant.within);
    }
