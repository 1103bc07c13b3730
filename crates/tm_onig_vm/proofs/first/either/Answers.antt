use Rattle.tm_onig_vm.proofs.Firsts.{in_first-or}
use Rattle.tm_onig_vm.proofs.first.either.Goals as goal

pub returns : goal.returns
returns c = in_first-or c.args.a c.args.b
