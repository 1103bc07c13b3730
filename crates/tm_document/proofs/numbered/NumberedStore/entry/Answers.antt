use Rattle.std.proofs.Common.{ap, length, subst}
use Rattle.tm_machine.specs.Numbered.{IsKnownEnd}
use Rattle.tm_document.proofs.KeptSteps.{end-there}
use Rattle.tm_document.proofs.numbered.NumberedStore.entry.Goals as goal

pub returns-clause-known : goal.returns-clause-known
returns-clause-known c =
    subst (λ n. IsKnownEnd n c.entry.result.now.end) (ap (λ k. length k.tables.states) c.self.view_is)
    (end-there (length c.self.inside.table.states) c.self.inside.store.entries c.args.i c.entry.result.now c.self.invariant c.entry.ensures)
