use Rattle.std.proofs.Common.{◌≡◌, ◌+◌, ◌*◌, true, length}
use Rattle.tm_onig_atom.specs.inner.ClassReading.{body_at, parts_on, with_front}
use Rattle.tm_onig_atom.proofs.classes.+nested.Given as goal

abbrev pub decreases-class_body : goal.decreases-class_body
decreases-class_body l = 3 * l.depth

abbrev pub decreases-part : goal.decreases-part
decreases-part l = 3 * l.depth + 1

abbrev pub decreases-parts : goal.decreases-parts
decreases-parts l = 3 * l.depth + 2

abbrev pub invariant-parts-loop-alloc : goal.invariant-parts-loop-alloc
invariant-parts-loop-alloc l = with_front l.parts.items (parts_on (body_at l.depth l.fold) l.first l.rest) ≡ parts_on (body_at l.depth l.fold) true l.text

abbrev pub decreases-parts-loop-alloc : goal.decreases-parts-loop-alloc
decreases-parts-loop-alloc l = length l.rest
