use Rattle.tm_paint.proofs.Runs.{runs-pieces}
use Rattle.tm_paint.proofs.tokens_are_of_scopes.Goals as goal

pub returns : goal.returns
returns c = runs-pieces
