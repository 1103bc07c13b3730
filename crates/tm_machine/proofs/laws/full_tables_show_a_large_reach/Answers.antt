use Rattle.tm_machine.proofs.ReachedTables.{full-reaches, front-start, within-lines}
use Rattle.tm_machine.proofs.laws.full_tables_show_a_large_reach.Goals as goal

pub returns-clause-full : goal.returns-clause-full
returns-clause-full c = full-reaches

pub returns-clause-front : goal.returns-clause-front
returns-clause-front c = front-start

pub returns-clause-grown : goal.returns-clause-grown
returns-clause-grown c = within-lines
