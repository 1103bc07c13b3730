use Rattle.tm_machine.proofs.SoundSteps.{every-run-sound}
use Rattle.tm_machine.proofs.laws.every_run_is_sound.Goals as goal

pub returns : goal.returns
returns c = every-run-sound
