use Rattle.std.proofs.Common.{arith, drop}
use Rattle.std.proofs.lemmas.List.{length-drop}
use Rattle.tm_selector.proofs.Depths.{depth-below, between-below}
use Rattle.tm_selector.proofs.walk.walked.Goals as goal

pub walked_on-walk-requires-clause-depth : goal.walked_on-walk-requires-clause-depth
walked_on-walk-requires-clause-depth g c =
    depth-below (g.S.Scopes.names c.args.scopes.now) (drop c.loop-place.place c.args.tokens.now) c.loop-place.walk _ c.loop-place.invariant.behind (omega (arith, length-drop c.loop-place.place c.args.tokens.now, c.loop-place.invariant.within, c.loop-place.invariant.small))

pub walked_on-walk-requires-clause-between : goal.walked_on-walk-requires-clause-between
walked_on-walk-requires-clause-between g c =
    between-below (g.S.Scopes.names c.args.scopes.now) (drop c.loop-place.place c.args.tokens.now) c.loop-place.walk _ c.loop-place.invariant.behind (omega (arith, length-drop c.loop-place.place c.args.tokens.now, c.loop-place.invariant.within, c.loop-place.invariant.small))
