use Rattle.tm_selector.proofs.Begins.{read-selector, selector-stands}
use Rattle.tm_selector.proofs.laws.prove_what_is_read_is_a_selector.Goals as goal

pub returns-clause-whole : goal.returns-clause-whole
returns-clause-whole c = read-selector

pub returns-clause-same : goal.returns-clause-same
returns-clause-same c = selector-stands
