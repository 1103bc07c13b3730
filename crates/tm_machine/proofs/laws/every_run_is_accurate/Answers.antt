use Rattle.tm_machine.proofs.SoundSteps.{every-run-accurate}
use Rattle.tm_machine.proofs.laws.every_run_is_accurate.Goals as goal

pub returns : goal.returns
returns c = every-run-accurate
