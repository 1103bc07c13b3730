use Rattle.tm_state.proofs.Led.{applied-difference}
use Rattle.tm_state.proofs.laws.difference_leads_there.Goals as goal

pub returns : goal.returns
returns c = applied-difference
