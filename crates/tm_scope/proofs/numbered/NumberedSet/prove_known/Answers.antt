use Rattle.tm_scope.proofs.Keys.{distinct-once}
use Rattle.tm_scope.proofs.numbered.NumberedSet.prove_known.Goals as goal

pub returns-clause-once : goal.returns-clause-once
returns-clause-once g c = rw (← c.self.view_is) (distinct-once g.T.PartialEq.eq g.met.T.Eq.laws.refl c.self.inside.values.keys c.len-count.ensures.unique)
