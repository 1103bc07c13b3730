use Rattle.tm_theme.proofs.Parts.{pushed-small}
use Rattle.tm_theme.proofs.theme.Theme.pushed.Goals as goal

pub returns-clause-small : goal.returns-clause-small
returns-clause-small g c = pushed-small c.pushed.result c.args.parts c.self.inside.alternatives _ _ _ c.pushed.ensures c.self.invariant.1
