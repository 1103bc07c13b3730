use Rattle.std.proofs.Common.{sym, ◌∙◌}
use Rattle.std.specs.Prelude.{nat_le}
use Rattle.tm_store.proofs.Runs.{position-none}
use Rattle.tm_store.specs.declared.spans.Span.{Span}
use Rattle.tm_store.proofs.spans.place_touching.Goals as goal

pub returns-in-None-clause-place : goal.returns-in-None-clause-place
returns-in-None-clause-place c = position-none (λ (r : Span). nat_le c.args.i r.end) c.args.spans.now (sym c.first_touching.ensures ∙ c.in-None.is)
