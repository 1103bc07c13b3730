use Rattle.tm_onig_vm.proofs.Firsts.{in_first-every}
use Rattle.tm_onig_vm.proofs.first.all.Goals as goal

pub returns-then-are : goal.returns-then-are
returns-then-are c = rw c.if-are.true in_first-every
