use Rattle.std.proofs.Common.{length}
use Rattle.tm_line_parts.proofs.layers.+finish.Given as goal

abbrev pub decreases-finish : goal.decreases-finish
decreases-finish g l = length l.layers.now
