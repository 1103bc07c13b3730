use Rattle.std.proofs.Common.{arith, ap, map, length}
use Rattle.std.specs.Arc.{arc_value}
use Rattle.tm_text.proofs.LineReads.{line_there}
use Rattle.tm_text.proofs.Sizes.{size-next, size-within}
use Rattle.tm_text.proofs.text.size_of.Goals as goal

pub overflow_add-size-in-loop-line : goal.overflow_add-size-in-loop-line
overflow_add-size-in-loop-line c =
    let p = size-within (map arc_value c.args.lines.now) c.loop-line.line-index c.loop-line.size c.deref.result.now (line_there c.args.lines.now c.loop-line.line-index _ c.deref.result.now c.loop-line-test.true c.line-item.is c.deref.ensures) c.loop-line.invariant in
    omega (arith, p, c.requires, ap length c.as_slice.ensures)

pub loop-line-preserved : goal.loop-line-preserved
loop-line-preserved c =
    let p = size-next (map arc_value c.args.lines.now) c.loop-line.line-index c.loop-line.size c.deref.result.now (line_there c.args.lines.now c.loop-line.line-index _ c.deref.result.now c.loop-line-test.true c.line-item.is c.deref.ensures) c.loop-line.invariant in
    omega (arith, p, ap length c.as_slice.ensures)
