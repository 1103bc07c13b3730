use Rattle.tm_template.proofs.Templates.{names_refer, names_alone}
use Rattle.tm_template.proofs.laws.templates_alone.Goals as goal

pub returns-clause-refers : goal.returns-clause-refers
returns-clause-refers c text = names_refer text

pub returns-clause-gives : goal.returns-clause-gives
returns-clause-gives c template line caps none = names_alone template line caps none
