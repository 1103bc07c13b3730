use Rattle.std.proofs.Common.{refl}
use Rattle.tm_paint.specs.Painted.{runs_from}
use Rattle.tm_line_turns.specs.LineRun.{runs, line_run, left, unused}
use Rattle.tm_line_turns.proofs.worked_line.Goals as goal

pub returns-clause-tokens : goal.returns-clause-tokens
unfolding runs line_run left unused runs_from
returns-clause-tokens c = refl

pub returns-clause-stack : goal.returns-clause-stack
unfolding runs line_run left unused
returns-clause-stack c = refl

pub returns-clause-texts : goal.returns-clause-texts
unfolding runs line_run left unused
returns-clause-texts c = refl

pub returns-clause-cost : goal.returns-clause-cost
unfolding runs line_run left unused
returns-clause-cost c = refl
