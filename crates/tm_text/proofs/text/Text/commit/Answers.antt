use Rattle.std.proofs.Common.{◌+◌, arith, ap, ap₂, map, sym, subst, length, take, drop, ◌∙◌}
use Rattle.std.specs.Arc.{arc_value}
use Rattle.std.proofs.lemmas.List.{length-map}
use Rattle.tm_machine.specs.Changes.{spliced}
use Rattle.tm_text.specs.Texts.{IsText, Planned, TextLines, size_of_lines, characters_of}
use Rattle.tm_text.proofs.Sizes.{map-spliced, size-after, text-size, text-spliced}
use Rattle.tm_text.proofs.text.Text.commit.Goals as goal

pub size_of_range-removed-requires-clause-range : goal.size_of_range-removed-requires-clause-range
size_of_range-removed-requires-clause-range c =
    let p = ap (λ (h : Planned). h.effect.first + h.effect.old) c.plan.view_is in
    let l = ap (λ (h : TextLines). length h.lines) c.self.view_is in
    omega (arith, c.requires.range, p, l, length-map c.self.inside.lines.items arc_value, ap length c.as_slice.ensures.value)

pub size_of_range-removed-requires-clause-size : goal.size_of_range-removed-requires-clause-size
size_of_range-removed-requires-clause-size c =
    let same = ap (λ xs. size_of_lines (map arc_value xs)) c.as_slice.ensures.value in
    omega (arith, same, text-size (map arc_value c.self.inside.lines.items) c.self.invariant.0)

pub overflow_sub-self : goal.overflow_sub-self
overflow_sub-self c =
    let same = ap (λ xs. size_of_lines (map arc_value xs)) c.as_slice.ensures.value in
    omega (arith, same, c.size_of_range-removed.ensures.part, c.self.invariant.1)

pub overflow_add-self : goal.overflow_add-self
overflow_add-self c =
    let seen = ap₂ (λ (p : Planned) (h : TextLines). characters_of (spliced p.effect.first p.effect.old p.lines h.lines)) c.plan.view_is c.self.view_is in
    let size = size-after c.plan.inside.effect.first c.plan.inside.effect.old (map arc_value c.plan.inside.lines.items) (map arc_value c.self.inside.lines.items) c.self.inside.size c.size_of_range-removed.result c.plan.inside.size
    c.self.invariant.1 (c.size_of_range-removed.ensures.value ∙ ap (λ xs. size_of_lines (take c.plan.inside.effect.old (drop c.plan.inside.effect.first (map arc_value xs)))) c.as_slice.ensures.value) c.plan.invariant.3 in
    omega (arith, size.1, seen, c.requires.fits)

pub returns-clause-lines : goal.returns-clause-lines
returns-clause-lines c =
    ap (map arc_value) c.replace_range.ensures ∙ map-spliced arc_value c.plan.inside.effect.first c.plan.inside.effect.old c.plan.inside.lines.items c.self.inside.lines.items
    ∙ ap₂ (λ (p : Planned) (h : TextLines). spliced p.effect.first p.effect.old p.lines h.lines) c.plan.view_is c.self.view_is

pub invariant_of-self : goal.invariant_of-self
invariant_of-self c =
    let lines = ap (map arc_value) c.replace_range.ensures ∙ map-spliced arc_value c.plan.inside.effect.first c.plan.inside.effect.old c.plan.inside.lines.items c.self.inside.lines.items in
    let seen = ap₂ (λ (p : Planned) (h : TextLines). characters_of (spliced p.effect.first p.effect.old p.lines h.lines)) c.plan.view_is c.self.view_is in
    let size = size-after c.plan.inside.effect.first c.plan.inside.effect.old (map arc_value c.plan.inside.lines.items) (map arc_value c.self.inside.lines.items) c.self.inside.size c.size_of_range-removed.result c.plan.inside.size
    c.self.invariant.1 (c.size_of_range-removed.ensures.value ∙ ap (λ xs. size_of_lines (take c.plan.inside.effect.old (drop c.plan.inside.effect.first (map arc_value xs)))) c.as_slice.ensures.value) c.plan.invariant.3 in (
      subst IsText (sym lines)
          (text-spliced c.plan.inside.effect.first c.plan.inside.effect.old (map arc_value c.plan.inside.lines.items) (map arc_value c.self.inside.lines.items) c.self.invariant.0
          (omega (arith, length-map c.plan.inside.lines.items arc_value, c.plan.invariant.1)) c.plan.invariant.0 (omega (arith, seen, c.requires.fits))),
      size.1 ∙ ap size_of_lines (sym lines),
    )
