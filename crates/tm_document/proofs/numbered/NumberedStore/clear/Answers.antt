use Rattle.tm_document.proofs.KeptSteps.{kept-cleared}
use Rattle.tm_document.proofs.numbered.NumberedStore.clear.Goals as goal

pub returns : goal.returns
returns c = kept-cleared c.self.inside.store.entries c.self.inside.table c.args.self.now c.self.view_is _ c.clear.ensures.entries
