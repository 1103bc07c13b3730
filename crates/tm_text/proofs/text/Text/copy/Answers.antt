use Rattle.std.proofs.Common.{ap, sym, subst, ◌∙◌}
use Rattle.tm_text.specs.Texts.{IsText, size_of_lines}
use Rattle.tm_text.proofs.LineReads.{same-lines}
use Rattle.tm_text.proofs.text.Text.copy.Goals as goal

pub invariant_of-result : goal.invariant_of-result
invariant_of-result c =
    let same = same-lines c.self.inside.lines.items c.in_ok-clone.field-0.items c.in_ok-clone.ensures.cases.0 in
    (subst IsText (sym same) c.self.invariant.0, c.self.invariant.1 ∙ ap size_of_lines (sym same))

pub returns : goal.returns
returns c = same-lines c.self.inside.lines.items c.in_ok-clone.field-0.items c.in_ok-clone.ensures.cases.0 ∙ ap (λ h. h.lines) c.self.view_is
