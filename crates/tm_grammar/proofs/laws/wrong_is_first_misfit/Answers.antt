use Rattle.tm_grammar.proofs.Misfits.{first-misfit, all-fit}
use Rattle.tm_grammar.proofs.laws.wrong_is_first_misfit.Goals as goal

pub returns : goal.returns
returns c = record { first = first-misfit; none = all-fit }
