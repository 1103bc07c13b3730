use Rattle.std.proofs.Common.{ap, arith, refl, map, false, ◌++◌}
use Rattle.std.proofs.lemmas.List.{length-append}
use Rattle.tm_text.specs.Texts.{size_of_lines}
use Rattle.tm_text.proofs.Sizes.{size-lines_after}
use Rattle.std.specs.Arc.{arc_value}
use Rattle.tm_text.proofs.SplitLines.{split_of, lines-joined}
use Rattle.tm_text.proofs.split.split_joined.Goals as goal

pub returns-clause-lines : goal.returns-clause-lines
returns-clause-lines c =
    lines-joined (split_of (map arc_value c.new-lines.result.items) c.new-current.result.items false)
    (split_of (map arc_value c.take_text.new.lines.items) c.take_text.new.current.items c.in_ok-behind_front.behind_front)
    (split_of (map arc_value c.take_text-2.new.lines.items) c.take_text-2.new.current.items c.in_ok-behind_text.behind_text)
    (split_of (map arc_value c.take_text-3.new.lines.items) c.take_text-3.new.current.items c.in_ok-take_text.field-0)
    c.args.front.now c.args.text.now c.args.rest.now _ (ap (map arc_value) c.new-lines.ensures.items) c.new-current.ensures.items refl
    c.in_ok-behind_front.ensures c.in_ok-behind_text.ensures c.in_ok-take_text.ensures c.in_ok-end_line.ensures.lines

pub returns-clause-size : goal.returns-clause-size
returns-clause-size c =
    let whole = size-lines_after false (c.args.front.now ++ (c.args.text.now ++ c.args.rest.now)) in
    let lines = ap size_of_lines (returns-clause-lines c) in
    let all = length-append c.args.front.now (c.args.text.now ++ c.args.rest.now) in
    let behind = length-append c.args.text.now c.args.rest.now in
    omega (arith, whole, lines, all, behind, c.are_short.ensures)
