use Rattle.std.proofs.Common.{arith, ap, ◌∙◌, sym, length, ◌≡◌, ◌+◌, ℕ, false}
use Rattle.std.specs.Prelude.{if◌then◌else◌, nat_lt}
use Rattle.tm_store.specs.Spans.{runs}
use Rattle.tm_store.proofs.Marks.{guessed-runs, length-guess}
use Rattle.tm_store.proofs.store.Store.guess.Goals as goal

pub invariant_of-self : goal.invariant_of-self
invariant_of-self g c =
    let same-length = ap length c.guess_entry.ensures ∙ length-guess c.self.inside.entries.items c.args.i c.args.tokens c.args.end c.is_same_end-same.result in (
      c.mark_next.ensures.items
          ∙ guessed-runs c.self.inside.bad.items c.self.inside.entries.items c.args.i c.args.tokens c.args.end c.is_same_end-same.result c.has_next-next.result c.self.invariant.0
          (c.has_next-next.ensures ∙ ap (λ (n : ℕ). if c.is_same_end-same.result then false else nat_lt (c.args.i + 1) n) (let l : c.len.result ≡ length c.self.inside.entries.items = omega arith in l))
          ∙ ap (runs 0) (sym c.guess_entry.ensures),
      omega (arith, same-length, c.self.invariant.1),
      omega (arith, same-length, c.self.invariant.2),
      omega (arith, c.self.invariant.3),
    )
