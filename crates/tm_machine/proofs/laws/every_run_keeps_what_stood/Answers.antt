use Rattle.tm_machine.proofs.PastSteps.{every-run-within}
use Rattle.tm_machine.proofs.laws.every_run_keeps_what_stood.Goals as goal

pub returns : goal.returns
returns c = every-run-within
