use Rattle.tm_document.proofs.KeptSteps.{kept-new}
use Rattle.tm_document.proofs.numbered.NumberedStore.new.Goals as goal

pub returns : goal.returns
returns c = kept-new c.args.lines c.in_ok-store.store.entries c.in_ok-table.table _ c.in_ok-store.ensures c.in_ok-table.ensures
