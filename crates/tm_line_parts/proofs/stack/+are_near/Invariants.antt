use Rattle.std.proofs.Common.{length}
use Rattle.tm_line_parts.proofs.stack.+are_near.Given as goal

abbrev pub decreases-are_near : goal.decreases-are_near
decreases-are_near l = length l.frames.now
