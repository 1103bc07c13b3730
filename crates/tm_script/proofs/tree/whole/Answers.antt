use Rattle.std.proofs.Common.{ℕ, List, ◌<◌, ◌^◌, sym, ap, subst, ◌∙◌}
use Rattle.std.specs.Str.Parse.{IsNumeral, digits_value, without_leading_plus}
use Rattle.tm_script.proofs.PlainValues.{whole-parsed, too-large}
use Rattle.tm_script.proofs.tree.whole.Goals as goal

pub returns-in-Ok : goal.returns-in-Ok
returns-in-Ok c = c.below_2_32.ensures ∙ whole-parsed c.args.text.now c.in-Ok.number (sym c.is_whole.ensures ∙ c.if-not-is_whole.false) (c.in-Ok.ensures.1 ∙ ap (λ s. digits_value 10 (without_leading_plus s)) c.as_bytes.ensures.value)

pub returns-in-Err : goal.returns-in-Err
returns-in-Err c =
    let P : List ℕ → Type 0 = λ s. (IsNumeral 10 (without_leading_plus s) × (digits_value 10 (without_leading_plus s) < 2 ^ 64) → ⊥) in
    too-large c.args.text.now (sym c.is_whole.ensures ∙ c.if-not-is_whole.false) (subst P c.as_bytes.ensures.value c.in-Err.ensures)
