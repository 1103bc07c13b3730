use Rattle.std.proofs.Common.{◌≡◌, ap, ◌∙◌, get_or, length, arith}
use Rattle.tm_app.proofs.Commands.{two-words-are, same-text}
use Rattle.tm_app.proofs.command.lint_of.Goals as goal

pub returns-then-eq : goal.returns-then-eq
returns-then-eq c =
    let e : length c.as_slice.result.now ≡ length c.args.words.now.items = ap length c.as_slice.ensures.value in
    two-words-are c.args.words.now.items c.command-item.result c.settings-item.result _ _ (omega (arith, e, c.in-len2.len_at_least)) (omega (arith, e, c.in-len2.len_below))
    (c.command-item.is ∙ ap (λ l. get_or l 0 c.command-item.result) c.as_slice.ensures.value) (c.settings-item.is ∙ ap (λ l. get_or l 1 c.settings-item.result) c.as_slice.ensures.value)
    (same-text _ _ _ c.as_str.ensures.value c.if-eq.ensures) c.as_str-then-eq.ensures.value
