use Rattle.std.proofs.Common.{arith, ap, ◌∙◌, sym, length, ◌∷◌, [], vec_len}
use Rattle.tm_store.specs.Spans.{runs, span}
use Rattle.tm_store.proofs.Runs.{new-runs, length-blanks}
use Rattle.tm_store.proofs.store.Store.clear.Goals as goal

pub invariant_of-self : goal.invariant_of-self
invariant_of-self g c =
    let count = ap length c.clear_entries.ensures ∙ length-blanks _ _ in (
      c.one_run.ensures.items ∙ ap (λ n. span 0 n ∷ []) c.len-len.ensures ∙ new-runs _ (vec_len c.self.inside.entries) (omega (arith, c.self.invariant.2)) ∙ ap (runs 0) (sym c.clear_entries.ensures),
      omega (arith, count, c.self.invariant.1),
      omega (arith, count, c.self.invariant.2),
      omega (arith, c.one_run.ensures.room, c.self.invariant.3),
    )
