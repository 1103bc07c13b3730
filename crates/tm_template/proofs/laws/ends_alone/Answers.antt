use Rattle.tm_template.proofs.Alone.{refers, stays_alone}
use Rattle.tm_template.proofs.laws.ends_alone.Goals as goal

pub returns-clause-refers : goal.returns-clause-refers
returns-clause-refers c text = refers text

pub returns-clause-stays : goal.returns-clause-stays
returns-clause-stays c text line caps none = stays_alone text line caps none
