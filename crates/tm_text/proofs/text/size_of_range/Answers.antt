use Rattle.std.proofs.Common.{arith, ap, map, ◌∙◌}
use Rattle.std.specs.Arc.{arc_value}
use Rattle.tm_text.specs.Texts.{size_of_lines}
use Rattle.tm_text.proofs.Sizes.{part-is, size-range}
use Rattle.tm_text.proofs.text.size_of_range.Goals as goal

pub size_of-requires : goal.size_of-requires
size_of-requires c =
    let p = ap size_of_lines (part-is arc_value c.args.first c.args.old c.args.lines.now) in
    let le = size-range c.args.first c.args.old (map arc_value c.args.lines.now) in
    omega (arith, p, le, c.requires.size)

pub returns-clause-value : goal.returns-clause-value
returns-clause-value c = c.size_of.ensures ∙ ap size_of_lines (part-is arc_value c.args.first c.args.old c.args.lines.now)

pub returns-clause-part : goal.returns-clause-part
returns-clause-part c =
    let p = ap size_of_lines (part-is arc_value c.args.first c.args.old c.args.lines.now) in
    let le = size-range c.args.first c.args.old (map arc_value c.args.lines.now) in
    omega (arith, p, le, c.size_of.ensures)
