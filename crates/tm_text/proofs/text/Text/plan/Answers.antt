use Rattle.std.proofs.Common.{◌+◌, ◌-◌, arith, ap, map, sym, subst, length, take, drop, ◌∙◌}
use Rattle.std.specs.Arc.{arc_value}
use Rattle.std.proofs.lemmas.List.{length-map}
use Rattle.tm_machine.specs.Changes.{HaveNoBreak, lines_changed, new_lines}
use Rattle.tm_machine.specs.Places.{IsIn, bad_place}
use Rattle.tm_machine.proofs.PlaceTests.{bad_place-none}
use Rattle.tm_text.specs.Texts.{TextLines, size_of_lines, characters_of}
use Rattle.tm_text.proofs.Sizes.{size-changed, text-size, range-in, length-le-size, new-lines-are}
use Rattle.tm_text.proofs.text.Text.plan.Goals as goal

pub lines_of_change-requires : goal.lines_of_change-requires
lines_of_change-requires c =
    subst (λ ls. IsIn (map arc_value ls) c.args.change.now) (sym c.as_slice-2.ensures.value) (bad_place-none (map arc_value c.self.inside.lines.items) c.args.change.now (sym (c.fault_of_places.ensures ∙ ap (λ ls. bad_place (map arc_value ls) c.args.change.now) c.as_slice.ensures.value) ∙ c.in_default.is))

pub size_of-added-requires : goal.size_of-added-requires
size_of-added-requires c =
    let same = ap (λ xs. size_of_lines (map arc_value xs)) c.as_slice-3.ensures.value in
    omega (arith, same, c.in-Ok.ensures.size)

pub size_of_range-removed-requires-clause-range : goal.size_of_range-removed-requires-clause-range
size_of_range-removed-requires-clause-range c =
    let inside = bad_place-none (map arc_value c.self.inside.lines.items) c.args.change.now (sym (c.fault_of_places.ensures ∙ ap (λ ls. bad_place (map arc_value ls) c.args.change.now) c.as_slice.ensures.value) ∙ c.in_default.is) in
    omega (arith, range-in (map arc_value c.self.inside.lines.items) c.args.change.now inside, length-map c.self.inside.lines.items arc_value, ap length c.as_slice-4.ensures.value)

pub size_of_range-removed-requires-clause-size : goal.size_of_range-removed-requires-clause-size
size_of_range-removed-requires-clause-size c =
    let same = ap (λ xs. size_of_lines (map arc_value xs)) c.as_slice-4.ensures.value in
    omega (arith, same, text-size (map arc_value c.self.inside.lines.items) c.self.invariant.0)

pub returns-then-size-clause-fault : goal.returns-then-size-clause-fault
returns-then-size-clause-fault c =
    let inside = bad_place-none (map arc_value c.self.inside.lines.items) c.args.change.now (sym (c.fault_of_places.ensures ∙ ap (λ ls. bad_place (map arc_value ls) c.args.change.now) c.as_slice.ensures.value) ∙ c.in_default.is) in
    let size = size-changed (map arc_value c.self.inside.lines.items) c.args.change.now c.self.inside.size c.size_of_range-removed.result c.size_of-added.result c.self.invariant.1
    (c.size_of_range-removed.ensures.value ∙ ap (λ xs. size_of_lines (take (c.args.change.now.to_line - c.args.change.now.from_line + 1) (drop c.args.change.now.from_line (map arc_value xs)))) c.as_slice-4.ensures.value)
    (c.size_of-added.ensures ∙ ap (λ xs. size_of_lines (map arc_value xs)) c.as_slice-3.ensures.value ∙ ap size_of_lines (c.in-Ok.ensures.lines ∙ ap (λ ls. new_lines (map arc_value ls) c.args.change.now) c.as_slice-2.ensures.value)) in (
      subst (λ (h : TextLines). IsIn h.lines c.args.change.now) c.self.view_is inside,
      ap (λ n. n - 1) size.1 ∙ ap (λ (h : TextLines). characters_of (lines_changed h.lines c.args.change.now)) c.self.view_is,
      omega arith,
    )

pub overflow_cast-effect : goal.overflow_cast-effect
overflow_cast-effect c =
    let size = size-changed (map arc_value c.self.inside.lines.items) c.args.change.now c.self.inside.size c.size_of_range-removed.result c.size_of-added.result c.self.invariant.1
    (c.size_of_range-removed.ensures.value ∙ ap (λ xs. size_of_lines (take (c.args.change.now.to_line - c.args.change.now.from_line + 1) (drop c.args.change.now.from_line (map arc_value xs)))) c.as_slice-4.ensures.value)
    (c.size_of-added.ensures ∙ ap (λ xs. size_of_lines (map arc_value xs)) c.as_slice-3.ensures.value ∙ ap size_of_lines (c.in-Ok.ensures.lines ∙ ap (λ ls. new_lines (map arc_value ls) c.args.change.now) c.as_slice-2.ensures.value)) in
    let count = length-le-size (map arc_value c.in-Ok.lines.items) in
    let same = ap (λ xs. size_of_lines (map arc_value xs)) c.as_slice-3.ensures.value in
    omega (arith, size.0, count, same, c.size_of-added.ensures, length-map c.in-Ok.lines.items arc_value)

pub invariant_of-result : goal.invariant_of-result
invariant_of-result c =
    let made = new-lines-are (map arc_value c.as_slice-2.result.now) c.args.change.now in
    let lines = c.in-Ok.ensures.lines in (
      subst HaveNoBreak (sym lines) made.0,
      omega (arith, made.1, ap length lines, length-map c.in-Ok.lines.items arc_value),
      c.len-2.ensures,
      c.size_of-added.ensures ∙ ap (λ xs. size_of_lines (map arc_value xs)) c.as_slice-3.ensures.value,
    )

pub returns-clause-places : goal.returns-clause-places
returns-clause-places c =
    subst (λ (h : TextLines). IsIn h.lines c.args.change.now) c.self.view_is (bad_place-none (map arc_value c.self.inside.lines.items) c.args.change.now (sym (c.fault_of_places.ensures ∙ ap (λ ls. bad_place (map arc_value ls) c.args.change.now) c.as_slice.ensures.value) ∙ c.in_default.is))

pub returns-clause-fits : goal.returns-clause-fits
returns-clause-fits c =
    let size = size-changed (map arc_value c.self.inside.lines.items) c.args.change.now c.self.inside.size c.size_of_range-removed.result c.size_of-added.result c.self.invariant.1
    (c.size_of_range-removed.ensures.value ∙ ap (λ xs. size_of_lines (take (c.args.change.now.to_line - c.args.change.now.from_line + 1) (drop c.args.change.now.from_line (map arc_value xs)))) c.as_slice-4.ensures.value)
    (c.size_of-added.ensures ∙ ap (λ xs. size_of_lines (map arc_value xs)) c.as_slice-3.ensures.value ∙ ap size_of_lines (c.in-Ok.ensures.lines ∙ ap (λ ls. new_lines (map arc_value ls) c.args.change.now) c.as_slice-2.ensures.value)) in
    let seen = ap (λ (h : TextLines). size_of_lines (lines_changed h.lines c.args.change.now)) c.self.view_is in
    omega (arith, size.1, seen)
