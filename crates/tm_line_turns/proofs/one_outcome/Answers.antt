use Rattle.tm_line_turns.proofs.Turns.{is_line_run}
use Rattle.tm_line_turns.proofs.one_outcome.Goals as goal

pub returns : goal.returns
returns c = is_line_run
