use Rattle.tm_line_turns.proofs.Moves.{is_ordered}
use Rattle.tm_line_turns.proofs.turns_at_one_position.Goals as goal

pub returns : goal.returns
returns c = is_ordered
