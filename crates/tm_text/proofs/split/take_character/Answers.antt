use Rattle.tm_text.proofs.SplitLines.{takes-return, takes-break}
use Rattle.tm_text.proofs.split.take_character.Goals as goal

pub returns-then-c-eq13 : goal.returns-then-c-eq13
returns-then-c-eq13 c = takes-return _ _ c.args.current.now.items _ c.args.returned c.args.c c.if-c-eq13.true c.in_ok-end_line.ensures.lines c.in_ok-end_line.ensures.current

pub returns : goal.returns
returns c = takes-break _ _ c.args.current.now.items _ c.args.returned c.args.c c.if-c-ne10.false c.if-returned.false c.in_ok-end_line-2.ensures.lines c.in_ok-end_line-2.ensures.current
