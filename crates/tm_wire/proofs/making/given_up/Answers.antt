use Rattle.std.proofs.Common.{ap}
use Rattle.tm_wire.proofs.Passing.{merges}
use Rattle.tm_wire.proofs.making.given_up.Goals as goal

pub absorb-requires-clause-rule : goal.absorb-requires-clause-rule
absorb-requires-clause-rule g c = merges _ _ _ _ _ _ (ap (λ v. v.pushes) c.pusher.invariant.1) (ap (λ v. v.pops) c.popper.invariant.1)
