use Rattle.std.proofs.Common.{arith, ap, map, sym, subst, ◌∙◌}
use Rattle.std.specs.Arc.{arc_value}
use Rattle.tm_text.specs.Texts.{IsText, size_of_lines}
use Rattle.tm_text.proofs.Sizes.{text-of-lines}
use Rattle.tm_text.proofs.text.from_characters.Goals as goal

pub size_of-size-requires : goal.size_of-size-requires
size_of-size-requires c =
    let same = ap (λ xs. size_of_lines (map arc_value xs)) c.as_slice.ensures.value in
    omega (arith, same, c.in_ok-lines.ensures.size)

pub invariant_of-result : goal.invariant_of-result
invariant_of-result c =
    let same = ap (λ xs. size_of_lines (map arc_value xs)) c.as_slice.ensures.value in
    let made = ap size_of_lines c.in_ok-lines.ensures.lines in (
      subst IsText (sym c.in_ok-lines.ensures.lines) (text-of-lines c.args.characters.now (omega (arith, same, made, c.size_of-size.ensures))),
      c.size_of-size.ensures ∙ same,
    )
