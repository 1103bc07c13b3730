use Rattle.tm_rules.proofs.Flattened.{flattened-start, flattened-open, flattened-only}
use Rattle.tm_rules.proofs.laws.flattening_by_cases.Goals as goal

pub returns : goal.returns
returns c = record { starts = flattened-start; cut = flattened-open; others = flattened-only }
