use Rattle.std.proofs.Common.{refl}
use Rattle.tm_paint.specs.Painted.{runs_from}
use Rattle.tm_line_turns.specs.Language.{inner_at}
use Rattle.tm_line_turns.specs.LineRun.{runs, line_run, left, unused}
use Rattle.tm_line_turns.proofs.groups.worked_names.Goals as goal

pub returns-clause-two : goal.returns-clause-two
unfolding runs line_run left unused inner_at runs_from
returns-clause-two c = refl

pub returns-clause-skipped : goal.returns-clause-skipped
unfolding runs line_run left unused inner_at runs_from
returns-clause-skipped c = refl

pub returns-clause-halted : goal.returns-clause-halted
unfolding runs line_run left unused inner_at runs_from
returns-clause-halted c = refl

pub returns-clause-crossing : goal.returns-clause-crossing
unfolding runs line_run left unused inner_at runs_from
returns-clause-crossing c = refl
