use Rattle.tm_onig_class.proofs.Exact.{has_char-ranges_of}
use Rattle.tm_onig_class.proofs.sets.Set.ranges_have.Goals as goal

pub returns : goal.returns
returns c = λ test x is. has_char-ranges_of test x is
