use Rattle.std.proofs.Common.{refl}
use Rattle.tm_scope.proofs.Keys.{new-key, new-index}
use Rattle.tm_scope.proofs.numbered.NumberedSet.add.Goals as goal

pub returns-clause-number : goal.returns-clause-number
returns-clause-number g c =
    rw (c.in_ok-index.ensures.index, new-index g.T.PartialEq.eq g.met.T.Exact.one_value c.args.value c.self.inside.values.keys (rw (← c.self.view_is) at c.requires.absent), ← c.self.view_is) refl

pub returns-clause-values : goal.returns-clause-values
returns-clause-values g c =
    rw (c.in_ok-index.ensures.keys, new-key g.T.PartialEq.eq g.met.T.Exact.one_value c.args.value c.self.inside.values.keys (rw (← c.self.view_is) at c.requires.absent), ← c.self.view_is) refl
