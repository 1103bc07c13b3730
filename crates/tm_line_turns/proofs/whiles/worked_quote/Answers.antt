use Rattle.std.proofs.Common.{refl}
use Rattle.tm_paint.specs.Painted.{runs_from}
use Rattle.tm_line_turns.specs.Language.{inner_at}
use Rattle.tm_line_turns.specs.LineRun.{runs, line_run, left, unused}
use Rattle.tm_line_turns.proofs.whiles.worked_quote.Goals as goal

pub returns-clause-begins : goal.returns-clause-begins
unfolding runs line_run left unused inner_at runs_from
returns-clause-begins c = refl

pub returns-clause-begins_end : goal.returns-clause-begins_end
unfolding runs line_run left unused inner_at runs_from
returns-clause-begins_end c = refl

pub returns-clause-begins_steps : goal.returns-clause-begins_steps
unfolding runs line_run left unused inner_at runs_from
returns-clause-begins_steps c = refl

pub returns-clause-held : goal.returns-clause-held
unfolding runs line_run left unused inner_at runs_from
returns-clause-held c = refl

pub returns-clause-held_end : goal.returns-clause-held_end
unfolding runs line_run left unused inner_at runs_from
returns-clause-held_end c = refl

pub returns-clause-held_steps : goal.returns-clause-held_steps
unfolding runs line_run left unused inner_at runs_from
returns-clause-held_steps c = refl

pub returns-clause-inner : goal.returns-clause-inner
unfolding runs line_run left unused inner_at runs_from
returns-clause-inner c = refl

pub returns-clause-inner_end : goal.returns-clause-inner_end
unfolding runs line_run left unused inner_at runs_from
returns-clause-inner_end c = refl

pub returns-clause-inner_steps : goal.returns-clause-inner_steps
unfolding runs line_run left unused inner_at runs_from
returns-clause-inner_steps c = refl

pub returns-clause-outer : goal.returns-clause-outer
unfolding runs line_run left unused inner_at runs_from
returns-clause-outer c = refl

pub returns-clause-outer_end : goal.returns-clause-outer_end
unfolding runs line_run left unused inner_at runs_from
returns-clause-outer_end c = refl

pub returns-clause-outer_steps : goal.returns-clause-outer_steps
unfolding runs line_run left unused inner_at runs_from
returns-clause-outer_steps c = refl
