use Rattle.std.proofs.Common.{refl}
use Rattle.tm_paint.specs.Painted.{runs_from}
use Rattle.tm_line_turns.specs.Language.{inner_at}
use Rattle.tm_line_turns.specs.LineRun.{runs, line_run, left, unused}
use Rattle.tm_line_turns.proofs.groups.worked_again.Goals as goal

pub returns-clause-inner : goal.returns-clause-inner
unfolding runs line_run left unused inner_at runs_from
returns-clause-inner c = refl

pub returns-clause-inner_steps : goal.returns-clause-inner_steps
unfolding runs line_run left unused inner_at runs_from
returns-clause-inner_steps c = refl

pub returns-clause-near : goal.returns-clause-near
unfolding runs line_run left unused inner_at runs_from
returns-clause-near c = refl

pub returns-clause-near_steps : goal.returns-clause-near_steps
unfolding runs line_run left unused inner_at runs_from
returns-clause-near_steps c = refl

pub returns-clause-first : goal.returns-clause-first
unfolding runs line_run left unused inner_at runs_from
returns-clause-first c = refl

pub returns-clause-later : goal.returns-clause-later
unfolding runs line_run left unused inner_at runs_from
returns-clause-later c = refl

pub returns-clause-deep : goal.returns-clause-deep
unfolding runs line_run left unused inner_at runs_from
returns-clause-deep c = refl

pub returns-clause-deep_steps : goal.returns-clause-deep_steps
unfolding runs line_run left unused inner_at runs_from
returns-clause-deep_steps c = refl

pub returns-clause-endless : goal.returns-clause-endless
unfolding runs line_run left unused inner_at runs_from
returns-clause-endless c = refl

pub returns-clause-endless_steps : goal.returns-clause-endless_steps
unfolding runs line_run left unused inner_at runs_from
returns-clause-endless_steps c = refl
