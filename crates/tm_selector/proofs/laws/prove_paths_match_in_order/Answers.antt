use Rattle.tm_selector.proofs.Paths.{path-in_order}
use Rattle.tm_selector.proofs.laws.prove_paths_match_in_order.Goals as goal

pub returns : goal.returns
returns c = path-in_order
