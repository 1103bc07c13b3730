use Rattle.std.proofs.Common.{◌≡◌, ap, ◌∙◌, get_or, length, arith}
use Rattle.tm_app.proofs.Commands.{words-are, three-words-are, same-text}
use Rattle.tm_app.proofs.command.run_of.Goals as goal

pub returns-then-eq : goal.returns-then-eq
returns-then-eq c =
    let e : length c.as_slice.result.now ≡ length c.args.words.now.items = ap length c.as_slice.ensures.value in
    three-words-are c.args.words.now.items c.command-item.result c.settings-item.result c.text-item.result _ _ _ (omega (arith, e, c.in-len3.len_at_least)) (omega (arith, e, c.in-len3.len_below))
    (c.command-item.is ∙ ap (λ l. get_or l 0 c.command-item.result) c.as_slice.ensures.value) (c.settings-item.is ∙ ap (λ l. get_or l 1 c.settings-item.result) c.as_slice.ensures.value)
    (c.text-item.is ∙ ap (λ l. get_or l 2 c.text-item.result) c.as_slice.ensures.value)
    (same-text _ _ _ c.as_str.ensures.value c.if-eq.ensures) c.as_str-then-eq.ensures.value c.as_str-then-eq-2.ensures.value

pub returns-then-eq-2 : goal.returns-then-eq-2
returns-then-eq-2 c =
    let e : length c.as_slice.result.now ≡ length c.args.words.now.items = ap length c.as_slice.ensures.value in
    words-are c.args.words.now.items c.command-item-then-this-lt5.result c.settings-item-then-this-lt5.result c.text-item-then-this-lt5.result c.script-item.result _ _ _ _ (omega (arith, e, c.in-len4.len_at_least)) (omega (arith, e, c.in-len4.len_below))
    (c.command-item-then-this-lt5.is ∙ ap (λ l. get_or l 0 c.command-item-then-this-lt5.result) c.as_slice.ensures.value) (c.settings-item-then-this-lt5.is ∙ ap (λ l. get_or l 1 c.settings-item-then-this-lt5.result) c.as_slice.ensures.value)
    (c.text-item-then-this-lt5.is ∙ ap (λ l. get_or l 2 c.text-item-then-this-lt5.result) c.as_slice.ensures.value) (c.script-item.is ∙ ap (λ l. get_or l 3 c.script-item.result) c.as_slice.ensures.value)
    (same-text _ _ _ c.as_str-in-len4.ensures.value c.if-eq-2.ensures) c.as_str-then-eq-2-2.ensures.value c.as_str-then-eq-2-3.ensures.value c.as_str-then-eq-2-4.ensures.value
