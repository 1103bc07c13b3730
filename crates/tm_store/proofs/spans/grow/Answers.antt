use Rattle.std.proofs.Common.{arith}
use Rattle.tm_store.proofs.Marks.{grown-next, grown-last, grown-far}
use Rattle.tm_store.proofs.spans.grow.Goals as goal
use Rattle.tm_store.proofs.spans.grow.Goals.{then-k-len+else-next-i, else-k-len}

pub returns-then-next-i-clause-items : goal.returns-then-next-i-clause-items
returns-then-next-i-clause-items c =
    λ d. grown-next c.args.spans.now.items c.remove.new.self.items c.args.k c.args.i d c.index.result.now c.index-next.result.now
    (omega arith) c.index.ensures c.index-next.ensures c.if-next-i.true c.remove.ensures.by_index.2

pub returns-clause-items : goal.returns-clause-items
returns-clause-items c = λ d. elim c.if-k-len.branch [
  | then-k-len+else-next-i w ↦ grown-far c.args.spans.now.items c.args.k c.args.i d c.index.result.now w.index-next.result.now (omega arith) c.index.ensures w.index-next.ensures w.if-next-i.false
  | else-k-len w ↦ grown-last c.args.spans.now.items c.args.k c.args.i d c.index.result.now (omega arith) (omega arith) c.index.ensures
]
