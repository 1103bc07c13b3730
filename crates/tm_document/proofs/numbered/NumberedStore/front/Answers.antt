use Rattle.std.proofs.Common.{◌∙◌}
use Rattle.tm_document.proofs.KeptSteps.{kept-front}
use Rattle.tm_document.proofs.numbered.NumberedStore.front.Goals as goal

pub returns : goal.returns
returns c = c.front.ensures ∙ kept-front c.self.inside.store.entries c.self.inside.table c.args.self.now c.self.view_is
