use Rattle.std.proofs.Common.{◌≡◌}
use Rattle.tm_selector.specs.Names.{place_above}
use Rattle.tm_selector.proofs.names.place_above.Given as goal

abbrev pub invariant-loop-above : goal.invariant-loop-above
invariant-loop-above g l = place_above l.name (g.S.Scopes.names l.scopes) l.above ≡ place_above l.name (g.S.Scopes.names l.scopes) l.fn.place

abbrev pub decreases-loop-above : goal.decreases-loop-above
decreases-loop-above g l = l.above
