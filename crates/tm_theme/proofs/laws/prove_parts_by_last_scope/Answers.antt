use Rattle.tm_theme.proofs.Parts.{parts-by-last}
use Rattle.tm_theme.proofs.laws.prove_parts_by_last_scope.Goals as goal

pub returns : goal.returns
returns c = parts-by-last
