use Rattle.std.proofs.Common.{ap, arith, subst, sym}
use Rattle.tm_store.specs.Spans.{AreFrom}
use Rattle.tm_worker.specs.Fresh.{Fresh}
use Rattle.tm_worker.proofs.FreshSteps.{marks-length, marks-marked}
use Rattle.tm_worker.proofs.Ranges.{AreBelow, below-marked, from-marked}
use Rattle.tm_worker.proofs.fresh.FreshLines.mark.Goals as goal

pub mark-requires-clause-small : goal.mark-requires-clause-small
mark-requires-clause-small c =
    let count = marks-length c.self.inside.lines c.self.inside.spans.items c.args.self.now.marks (ap (λ (f : Fresh). f.marks) c.self.view_is) in
    omega (arith, count, c.requires.within, c.self.invariant.2)

pub invariant_of-self : goal.invariant_of-self
invariant_of-self c =
    let count = marks-length c.self.inside.lines c.self.inside.spans.items c.args.self.now.marks (ap (λ (f : Fresh). f.marks) c.self.view_is) in (
      subst (AreFrom 0) (sym c.mark.ensures.items) (from-marked 0 c.args.i c.self.inside.spans.items (omega arith) c.self.invariant.0),
      subst (AreBelow c.self.inside.lines) (sym c.mark.ensures.items) (below-marked c.self.inside.lines c.args.i c.self.inside.spans.items (omega (arith, count, c.requires.within)) c.self.invariant.1),
      c.self.invariant.2,
    )

pub returns : goal.returns
returns c = marks-marked c.self.inside.lines c.self.inside.spans.items c.args.self.now.marks (ap (λ (f : Fresh). f.marks) c.self.view_is) c.args.i _ c.self.invariant.0 c.requires.within c.mark.ensures.items
