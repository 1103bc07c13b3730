use Rattle.std.proofs.Common.{refl}
use Rattle.tm_paint.specs.Painted.{runs_from}
use Rattle.tm_line_turns.specs.Language.{inner_at}
use Rattle.tm_line_turns.specs.LineRun.{runs, line_run, left, unused}
use Rattle.tm_line_turns.proofs.whiles.worked_loss.Goals as goal

pub returns-clause-within : goal.returns-clause-within
unfolding runs line_run left unused inner_at runs_from
returns-clause-within c = refl

pub returns-clause-around : goal.returns-clause-around
unfolding runs line_run left unused inner_at runs_from
returns-clause-around c = refl

pub returns-clause-around_steps : goal.returns-clause-around_steps
unfolding runs line_run left unused inner_at runs_from
returns-clause-around_steps c = refl

pub returns-clause-lowest : goal.returns-clause-lowest
unfolding runs line_run left unused inner_at runs_from
returns-clause-lowest c = refl

pub returns-clause-lowest_steps : goal.returns-clause-lowest_steps
unfolding runs line_run left unused inner_at runs_from
returns-clause-lowest_steps c = refl
