use Rattle.tm_selector.proofs.Begins.{kept-longest}
use Rattle.tm_selector.proofs.laws.prove_the_longest_beginning_is_kept.Goals as goal

pub returns : goal.returns
returns c = kept-longest
