use Rattle.std.proofs.Common.{refl}
use Rattle.tm_paint.specs.Painted.{runs_from}
use Rattle.tm_line_turns.specs.Language.{inner_at}
use Rattle.tm_line_turns.specs.LineRun.{runs, line_run, left, unused}
use Rattle.tm_line_turns.proofs.whiles.worked_block.Goals as goal

pub returns-clause-begins : goal.returns-clause-begins
unfolding runs line_run left unused inner_at runs_from
returns-clause-begins c = refl

pub returns-clause-begins_end : goal.returns-clause-begins_end
unfolding runs line_run left unused inner_at runs_from
returns-clause-begins_end c = refl

pub returns-clause-held : goal.returns-clause-held
unfolding runs line_run left unused inner_at runs_from
returns-clause-held c = refl

pub returns-clause-held_end : goal.returns-clause-held_end
unfolding runs line_run left unused inner_at runs_from
returns-clause-held_end c = refl

pub returns-clause-lost : goal.returns-clause-lost
unfolding runs line_run left unused inner_at runs_from
returns-clause-lost c = refl

pub returns-clause-lost_end : goal.returns-clause-lost_end
unfolding runs line_run left unused inner_at runs_from
returns-clause-lost_end c = refl

pub returns-clause-lost_steps : goal.returns-clause-lost_steps
unfolding runs line_run left unused inner_at runs_from
returns-clause-lost_steps c = refl
