use Rattle.std.proofs.Common.{refl}
use Rattle.tm_paint.specs.Painted.{runs_from}
use Rattle.tm_line_turns.specs.Language.{inner_at}
use Rattle.tm_line_turns.specs.LineRun.{runs, line_run, left, unused}
use Rattle.tm_line_turns.proofs.whiles.worked_anchor.Goals as goal

pub returns-clause-innermost : goal.returns-clause-innermost
unfolding runs line_run left unused inner_at runs_from
returns-clause-innermost c = refl

pub returns-clause-without : goal.returns-clause-without
unfolding runs line_run left unused inner_at runs_from
returns-clause-without c = refl

pub returns-clause-ahead : goal.returns-clause-ahead
unfolding runs line_run left unused inner_at runs_from
returns-clause-ahead c = refl

pub returns-clause-again : goal.returns-clause-again
unfolding runs line_run left unused inner_at runs_from
returns-clause-again c = refl

pub returns-clause-again_scopes : goal.returns-clause-again_scopes
unfolding runs line_run left unused inner_at runs_from
returns-clause-again_scopes c = refl

pub returns-clause-again_steps : goal.returns-clause-again_steps
unfolding runs line_run left unused inner_at runs_from
returns-clause-again_steps c = refl
