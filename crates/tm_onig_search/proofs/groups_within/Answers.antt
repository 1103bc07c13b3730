use Rattle.tm_onig_search.proofs.Least.{within}
use Rattle.tm_onig_search.proofs.groups_within.Goals as goal

pub returns : goal.returns
returns c = within
