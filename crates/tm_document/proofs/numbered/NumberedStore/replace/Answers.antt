use Rattle.std.proofs.Common.{length}
use Rattle.tm_document.proofs.KeptSteps.{kept-replaced-ok, replaced-still-known}
use Rattle.tm_document.proofs.numbered.NumberedStore.replace.Goals as goal

pub invariant_of-self : goal.invariant_of-self
invariant_of-self c = replaced-still-known c.replace.result (length c.self.inside.table.states) c.self.inside.store c.replace.new.self c.args.effect c.replace.ensures.ok c.replace.ensures.err c.self.invariant

pub returns-clause-ok : goal.returns-clause-ok
returns-clause-ok c = kept-replaced-ok c.self.inside.store.entries c.self.inside.table c.args.self.now c.self.view_is c.replace.result c.replace.new.self.entries c.args.effect c.replace.ensures.ok
