use Rattle.tm_machine.proofs.DoneLines.{does-increasing, does-within, does-few, does-stays, does-one}
use Rattle.tm_machine.proofs.laws.lines_are_done_once.Goals as goal

pub returns-clause-rising : goal.returns-clause-rising
returns-clause-rising c = does-increasing

pub returns-clause-within : goal.returns-clause-within
returns-clause-within c k budget lines last es done after does = λ j d lt. does-within k budget lines last es done after does j d lt

pub returns-clause-few : goal.returns-clause-few
returns-clause-few c = does-few

pub returns-clause-kept : goal.returns-clause-kept
returns-clause-kept c k budget lines last es done after i e does there good same among =
    does-stays k budget lines last es done after among.0 i does among.1 among.2 e there good same

pub returns-clause-one : goal.returns-clause-one
returns-clause-one c = does-one
