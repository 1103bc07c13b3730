use Rattle.std.proofs.Common.{arith, ap, ◌∙◌}
use Rattle.tm_machine.specs.Entries.{front}
use Rattle.tm_store.proofs.Runs.{front-none, front-some}
use Rattle.tm_store.proofs.store.Store.front.Goals as goal

pub returns-then-len-eq0 : goal.returns-then-len-eq0
returns-then-len-eq0 g c = front-none c.self.inside.bad.items c.self.inside.entries.items c.self.invariant.0 (omega arith) ∙ ap (λ h. front h.entries) c.self.view_is

pub returns-else-len-eq0 : goal.returns-else-len-eq0
returns-else-len-eq0 g c = front-some c.self.inside.bad.items c.self.inside.entries.items c.index.result.now c.self.invariant.0 (omega arith) c.index.ensures ∙ ap (λ h. front h.entries) c.self.view_is
