use Rattle.std.proofs.Common.{◌≡◌, take, map}
use Rattle.std.specs.Arc.{arc_value}
use Rattle.tm_text.specs.Texts.{size_of_lines}
use Rattle.tm_text.proofs.text.size_of.Given as goal

abbrev pub invariant-loop-line : goal.invariant-loop-line
invariant-loop-line l = l.size ≡ size_of_lines (take l.line-index (map arc_value l.lines))
