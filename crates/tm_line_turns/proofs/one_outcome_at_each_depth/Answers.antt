use Rattle.tm_line_turns.proofs.Depths.{is_run_at_each_depth}
use Rattle.tm_line_turns.proofs.one_outcome_at_each_depth.Goals as goal

pub returns : goal.returns
returns c = is_run_at_each_depth
