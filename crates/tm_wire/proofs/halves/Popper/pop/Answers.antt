use Rattle.std.proofs.Common.{ap, subst, rules}
use Rattle.tm_wire.specs.Passed.{HeldUnder}
use Rattle.tm_wire.proofs.halves.Popper.pop.Goals as goal

pub pop_as-requires-clause-rule : goal.pop_as-requires-clause-rule
pop_as-requires-clause-rule g c = (g.met.P.Keeps.pops _ _ (ap (λ v. v.pops) c.self.invariant.1), λ items views h at. (views, _, h, at))

pub returns-in-None : goal.returns-in-None
returns-in-None g c = rw (← c.self.view_is) (search rules, subst (λ v. HeldUnder g.P.Protocol.holds 0 v) c.self.invariant.1 c.in-None.ensures.rule.1)
