use Rattle.tm_line_turns.proofs.Depths.{groups-nothing}
use Rattle.tm_line_turns.proofs.groups_add_nothing.Goals as goal

pub returns : goal.returns
returns c = groups-nothing
