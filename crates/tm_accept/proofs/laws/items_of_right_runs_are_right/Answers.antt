use Rattle.tm_accept.proofs.RightItems.{runs-right}
use Rattle.tm_accept.proofs.laws.items_of_right_runs_are_right.Goals as goal

pub returns : goal.returns
returns c = runs-right
