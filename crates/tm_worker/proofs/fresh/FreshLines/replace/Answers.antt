use Rattle.std.proofs.Common.{◌+◌, ◌-◌, ◌∙◌, ap, arith, refl, subst, sym}
use Rattle.tm_store.specs.Spans.{AreFrom}
use Rattle.tm_worker.specs.Fresh.{Fresh, cut_ranges}
use Rattle.tm_worker.proofs.Cuts.{below-cut, from-cut}
use Rattle.tm_worker.proofs.FreshSteps.{cut-last, marks-length, marks-replaced}
use Rattle.tm_worker.proofs.Ranges.{AreBelow, from-less}
use Rattle.tm_worker.proofs.fresh.FreshLines.replace.Goals as goal

pub push_cut-requires-clause-range : goal.push_cut-requires-clause-range
push_cut-requires-clause-range c = let count = marks-length c.self.inside.lines c.self.inside.spans.items c.args.self.now.marks (ap (λ (f : Fresh). f.marks) c.self.view_is) in omega (arith, count, c.requires.range, c.self.invariant.2)

pub overflow_sub-self : goal.overflow_sub-self
overflow_sub-self c = let count = marks-length c.self.inside.lines c.self.inside.spans.items c.args.self.now.marks (ap (λ (f : Fresh). f.marks) c.self.view_is) in omega (arith, count, c.requires.range)

pub invariant_of-self : goal.invariant_of-self
invariant_of-self c =
    let e = c.args.effect in
    let count = marks-length c.self.inside.lines c.self.inside.spans.items c.args.self.now.marks (ap (λ (f : Fresh). f.marks) c.self.view_is) in
    let spans = ap (cut_ranges e.first e.old e.new) c.as_slice-span-items.ensures.value in
    let whole = cut-last e.first e.old e.new c.loop-span.next.items c.as_slice-span-items.result.now _ c.loop-span.span-index (omega (arith, c.loop-span-test.false)) c.loop-span.invariant.items ∙ spans in (
      subst (AreFrom 0) (sym whole) (from-less 0 _ _ (omega arith) (from-cut e.first e.old e.new 0 c.self.inside.spans.items c.requires.old c.requires.some c.self.invariant.0)),
      subst (AreBelow (c.self.inside.lines + e.new - e.old)) (sym whole) (below-cut e.first e.old e.new c.self.inside.lines (c.self.inside.lines + e.new - e.old) c.self.inside.spans.items (omega (arith, count, c.requires.range)) (omega (arith, count, c.requires.range)) c.self.invariant.1),
      omega (arith, count, c.requires.range, c.requires.new),
    )

pub returns : goal.returns
returns c =
    let e = c.args.effect in
    let spans = ap (cut_ranges e.first e.old e.new) c.as_slice-span-items.ensures.value in
    let whole = cut-last e.first e.old e.new c.loop-span.next.items c.as_slice-span-items.result.now _ c.loop-span.span-index (omega (arith, c.loop-span-test.false)) c.loop-span.invariant.items ∙ spans in
    marks-replaced c.self.inside.lines c.self.inside.spans.items c.args.self.now.marks (ap (λ (f : Fresh). f.marks) c.self.view_is) e.first e.old e.new _ c.loop-span.next.items c.self.invariant.0 c.requires.range refl whole
