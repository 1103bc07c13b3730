use Rattle.std.proofs.Common.{sym, refl, ap, ◌∙◌, arith}
use Rattle.tm_onig_atom.specs.inner.ClassReading.{body_at, highest}
use Rattle.tm_onig_atom.specs.Classes.{class_has}
use Rattle.tm_onig_atom.proofs.ClassTurns.{part_shorter, part_faults, part_goes, class_ends, body_none, body_faults, body_goes, height_fits, some_depth}
use Rattle.tm_onig_atom.proofs.classes.+nested.Goals as goal

pub class_body-returns-then-depth-eq0 : goal.class_body-returns-then-depth-eq0
class_body-returns-then-depth-eq0 t c = ap (λ d. body_at d c.args.fold c.args.text.now) c.if-depth-eq0.true ∙ body_none c.args.fold c.args.text.now

pub class_body-overflow_add-height : goal.class_body-overflow_add-height
class_body-overflow_add-height t c =
    let some = some_depth c.args.depth c.if-depth-eq0.false in
    let high = c.highest-height.ensures ∙ ap highest c.deref-in-Ok.ensures.value in
    let fits = height_fits c.args.depth c.highest-height.result c.args.fold c.sign-negated.result.1.now _ _ some c.in-Ok.ensures high in
    omega (arith, fits, c.ranges.depth.fits)

pub class_body-returns-in-Ok-class_set : goal.class_body-returns-in-Ok-class_set
class_body-returns-in-Ok-class_set t c =
    let some = some_depth c.args.depth c.if-depth-eq0.false in
    let high = c.highest-height.ensures ∙ ap highest c.deref-in-Ok.ensures.value in
    let negated = c.sign-negated.result.0 in
    let same = c.prove_exact.ensures (class_has c.args.fold negated c.in-Ok.parts.items)
    (λ x is. c.in-Ok-class_set.ensures x is ∙ ap (λ ps. class_has c.args.fold negated ps x) c.deref.ensures.value) in
    body_goes c.args.depth c.args.fold negated c.args.text.now c.sign-negated.result.1.now _ _ _ _ some c.sign-negated.ensures.negated c.sign-negated.ensures.items c.in-Ok.ensures same high

pub class_body-returns-in-Err : goal.class_body-returns-in-Err
class_body-returns-in-Err t c =
    body_faults c.args.depth c.args.fold c.sign-negated.result.0 c.in-Err.fault c.args.text.now c.sign-negated.result.1.now (some_depth c.args.depth c.if-depth-eq0.false)
    c.sign-negated.ensures.negated c.sign-negated.ensures.items c.in-Err.ensures

pub parts-loop-alloc-smaller : goal.parts-loop-alloc-smaller
parts-loop-alloc-smaller t c = part_shorter c.args.depth c.args.fold c.loop-alloc.first c.loop-alloc.rest.now _ _ c.in-Ok.ensures

pub parts-loop-alloc-preserved : goal.parts-loop-alloc-preserved
parts-loop-alloc-preserved t c =
    part_goes c.args.depth c.args.fold c.loop-alloc.parts.items _ c.loop-alloc.first c.loop-alloc.rest.now _ _ _ (sym c.loop-alloc-test.ensures) c.loop-alloc.invariant c.in-Ok.ensures c.in-Ok-push.ensures.items

pub parts-returns-in-Err : goal.parts-returns-in-Err
parts-returns-in-Err t c =
    part_faults c.args.depth c.args.fold c.in-Err.fault c.loop-alloc.parts.items c.loop-alloc.first c.loop-alloc.rest.now _ (sym c.loop-alloc-test.ensures) c.loop-alloc.invariant c.in-Err.ensures

pub parts-returns : goal.parts-returns
parts-returns t c =
    class_ends (body_at c.args.depth c.args.fold) c.loop-alloc.parts.items c.loop-alloc.first c.loop-alloc.rest.now _ (sym c.loop-alloc-test.ensures) c.loop-alloc.invariant
    ∙ (rw c.tail.ensures refl)
