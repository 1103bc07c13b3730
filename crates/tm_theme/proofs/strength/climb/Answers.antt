use Rattle.std.proofs.Common.{sym, ap, ◌∙◌}
use Rattle.tm_selector.specs.Names.{place_above}
use Rattle.tm_theme.proofs.Orders.{climb-ends}
use Rattle.tm_theme.proofs.strength.climb.Goals as goal

pub returns-in-None : goal.returns-in-None
returns-in-None g c =
    let above = g.S.Scopes.names c.args.above.now in
    sym (climb-ends c.args.words.now above c.loop-word.word-index c.loop-word.place c.word-item.result c.loop-word-test.true c.word-item.is
    (ap (λ w. place_above w above c.loop-word.place) (sym c.as_slice.ensures) ∙ sym c.place_above.ensures ∙ c.in-None.is))
    ∙ c.loop-word.invariant
