use Rattle.std.proofs.Common.{arith, ap, ◌∙◌, sym, length}
use Rattle.tm_store.specs.Spans.{runs}
use Rattle.tm_store.proofs.Runs.{new-runs, length-blanks}
use Rattle.tm_store.proofs.store.Store.new.Goals as goal

pub invariant_of-result : goal.invariant_of-result
invariant_of-result g c =
    let count = ap length c.in_ok-entries.ensures ∙ length-blanks _ c.args.lines in (
      c.one_run.ensures.items ∙ new-runs _ c.args.lines c.requires.some ∙ ap (runs 0) (sym c.in_ok-entries.ensures),
      omega (arith, count, c.requires.small),
      omega (arith, count, c.requires.some),
      omega (arith, c.one_run.ensures.room, c.in_ok-bad.ensures.capacity),
    )
