use Rattle.std.proofs.Common.{false}
use Rattle.tm_machine.proofs.TextLines.{HaveNoBreak-lines_after, lines_some}
use Rattle.tm_machine.proofs.laws.lines_are_lines.Goals as goal

pub returns-clause-no_break : goal.returns-clause-no_break
returns-clause-no_break c cs = HaveNoBreak-lines_after false cs

pub returns-clause-some : goal.returns-clause-some
returns-clause-some c cs = lines_some false cs
