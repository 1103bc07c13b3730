use Rattle.tm_machine.proofs.BlockedFronts.{front-costs, forces-blocked, forces-all}
use Rattle.tm_machine.proofs.laws.runs_end_for_a_cause.Goals as goal

pub returns-clause-front : goal.returns-clause-front
returns-clause-front c = front-costs

pub returns-clause-blocked : goal.returns-clause-blocked
returns-clause-blocked c = forces-blocked

pub returns-clause-all : goal.returns-clause-all
returns-clause-all c = forces-all
