use Rattle.std.proofs.Common.{length}
use Rattle.tm_line_parts.proofs.layers.+close.Given as goal

abbrev pub decreases-close : goal.decreases-close
decreases-close g l = length l.layers.now
