use Rattle.tm_onig_vm.proofs.Firsts.{in_first-word, in_first-other}
use Rattle.tm_onig_vm.proofs.first.word.Goals as goal

pub returns-then-is : goal.returns-then-is
returns-then-is c = rw c.if-is.true in_first-word

pub returns-else-is : goal.returns-else-is
returns-else-is c = rw c.if-is.false in_first-other
