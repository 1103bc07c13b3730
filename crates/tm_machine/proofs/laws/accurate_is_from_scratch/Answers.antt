use Rattle.tm_machine.proofs.EntrySteps.{AreAccurate-right}
use Rattle.tm_machine.proofs.laws.accurate_is_from_scratch.Goals as goal

pub returns : goal.returns
returns c = AreAccurate-right
