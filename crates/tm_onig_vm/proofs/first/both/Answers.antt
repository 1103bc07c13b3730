use Rattle.tm_onig_vm.proofs.Firsts.{in_first-and}
use Rattle.tm_onig_vm.proofs.first.both.Goals as goal

pub returns : goal.returns
returns c = in_first-and c.args.a c.args.b
