use Rattle.std.proofs.Common.{arith, ap, ◌∙◌, sym, length}
use Rattle.tm_store.specs.Spans.{runs}
use Rattle.tm_store.proofs.Runs.{block-runs, length-block}
use Rattle.tm_store.proofs.store.Store.block.Goals as goal

pub invariant_of-self : goal.invariant_of-self
invariant_of-self g c =
    let same-length = ap length c.block_entry.ensures ∙ length-block c.self.inside.entries.items c.args.i in (
      c.self.invariant.0 ∙ sym (block-runs 0 c.args.i c.self.inside.entries.items) ∙ ap (runs 0) (sym c.block_entry.ensures),
      omega (arith, same-length, c.self.invariant.1),
      omega (arith, same-length, c.self.invariant.2),
      omega (arith, c.self.invariant.3),
    )
