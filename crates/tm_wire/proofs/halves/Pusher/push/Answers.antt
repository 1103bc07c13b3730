use Rattle.std.proofs.Common.{ap}
use Rattle.tm_wire.proofs.halves.Pusher.push.Goals as goal

pub push_as-requires-clause-rule : goal.push_as-requires-clause-rule
push_as-requires-clause-rule g c = (g.met.P.Keeps.pushes _ _ _ _ (ap (λ v. v.pushes) c.self.invariant.1) (rw (← c.self.view_is) at c.requires), λ items views h at. (views, _, h, at))
