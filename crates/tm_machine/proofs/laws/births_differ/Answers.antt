use Rattle.tm_machine.proofs.BornTexts.{IsBorn-opened, IsBorn-changed}
use Rattle.tm_machine.proofs.laws.births_differ.Goals as goal

pub returns-clause-opening : goal.returns-clause-opening
returns-clause-opening c = IsBorn-opened

pub returns-clause-change : goal.returns-clause-change
returns-clause-change c = IsBorn-changed
