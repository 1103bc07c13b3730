use Rattle.tm_machine.proofs.Fronts.{accurate-front, accurate-none}
use Rattle.tm_machine.proofs.laws.accurate_lines_stand_before_the_front.Goals as goal

pub returns-clause-front : goal.returns-clause-front
returns-clause-front c = accurate-front

pub returns-clause-none : goal.returns-clause-none
returns-clause-none c = accurate-none
