use Rattle.std.proofs.Common.{arith, ap, length, ◌-◌, subst}
use Rattle.tm_machine.specs.Numbered.{IsKnownEnd}
use Rattle.tm_machine.proofs.KnownEnds.{opening-state}
use Rattle.tm_document.proofs.KeptSteps.{kept-start, start-behind, end-there}
use Rattle.tm_document.proofs.numbered.NumberedStore.start.Goals as goal

pub returns-clause-state : goal.returns-clause-state
returns-clause-state c =
    kept-start c.self.inside.store.entries c.self.inside.table c.args.self.now c.self.view_is c.args.i _ (opening-state c.self.inside.table c.prove_known.ensures)
    (start-behind _ c.self.inside.store.entries c.args.i c.entry.result.now (omega arith) c.entry.ensures)

pub returns-clause-known : goal.returns-clause-known
returns-clause-known c =
    subst (λ n. IsKnownEnd n c.entry.result.now.end) (ap (λ k. length k.tables.states) c.self.view_is)
    (end-there (length c.self.inside.table.states) c.self.inside.store.entries (c.args.i - 1) c.entry.result.now c.self.invariant c.entry.ensures)
