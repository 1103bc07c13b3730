use Rattle.tm_machine.proofs.ExactWork.{work-exact}
use Rattle.tm_machine.proofs.laws.work_is_exact.Goals as goal

pub returns : goal.returns
returns c = work-exact
