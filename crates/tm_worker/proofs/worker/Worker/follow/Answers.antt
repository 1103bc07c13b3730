use Rattle.std.proofs.Common.{ap, arith}
use Rattle.tm_defs.specs.declared.changes.LineEffect.{LineEffect}
use Rattle.tm_document.proofs.ChangedDocuments.{few-changed, new_lines-some}
use Rattle.tm_worker.proofs.worker.Worker.follow.Goals as goal

pub replace-requires-clause-new : goal.replace-requires-clause-new
replace-requires-clause-new g c =
    let few = few-changed c.self.inside.document.lines c.args.change c.in-Ok-change.ensures.places c.in-Ok-change.ensures.fits in
    let new = ap (λ (e : LineEffect). e.new) c.in-Ok-change.ensures.effect in
    let old = ap (λ (e : LineEffect). e.old) c.in-Ok-change.ensures.effect in
    omega (arith, few, new, old, c.self.invariant)

pub replace-requires-clause-some : goal.replace-requires-clause-some
replace-requires-clause-some g c =
    let some = new_lines-some c.self.inside.document.lines c.args.change in
    let new = ap (λ (e : LineEffect). e.new) c.in-Ok-change.ensures.effect in
    omega (arith, some, new)
