use Rattle.tm_line_turns.proofs.Passes.{holds-all}
use Rattle.tm_line_turns.proofs.all_are_held_up.Goals as goal

pub returns : goal.returns
returns c = holds-all
