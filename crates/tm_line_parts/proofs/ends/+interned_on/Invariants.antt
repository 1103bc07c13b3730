use Rattle.std.proofs.Common.{length}
use Rattle.tm_line_parts.proofs.ends.+interned_on.Given as goal

abbrev pub decreases-interned_on : goal.decreases-interned_on
decreases-interned_on g l = length l.frames.now
