use Rattle.tm_meta.proofs.Leftmost.{leftmost}
use Rattle.tm_meta.proofs.leftmost_word.Goals as goal

pub returns : goal.returns
returns c = leftmost
