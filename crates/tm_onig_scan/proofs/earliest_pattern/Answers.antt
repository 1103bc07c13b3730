use Rattle.tm_onig_scan.proofs.Earliest.{earliest}
use Rattle.tm_onig_scan.proofs.Only.{only}
use Rattle.tm_onig_scan.proofs.earliest_pattern.Goals as goal

pub returns-clause-earliest : goal.returns-clause-earliest
returns-clause-earliest c = earliest

pub returns-clause-only : goal.returns-clause-only
returns-clause-only c = only
