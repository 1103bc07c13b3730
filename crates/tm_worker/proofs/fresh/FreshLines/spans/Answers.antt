use Rattle.std.proofs.Common.{ap, subst, sym}
use Rattle.tm_worker.specs.Fresh.{Fresh}
use Rattle.tm_worker.proofs.FreshSteps.{marks-length, marks-read}
use Rattle.tm_worker.proofs.Ranges.{AreBelow}
use Rattle.tm_worker.proofs.fresh.FreshLines.spans.Goals as goal

pub returns-clause-marks : goal.returns-clause-marks
returns-clause-marks c = marks-read c.self.inside.lines c.self.inside.spans.items c.args.self.now.marks (ap (λ (f : Fresh). f.marks) c.self.view_is) _ c.as_slice.ensures.value

pub returns-clause-within : goal.returns-clause-within
returns-clause-within c =
    let count = marks-length c.self.inside.lines c.self.inside.spans.items c.args.self.now.marks (ap (λ (f : Fresh). f.marks) c.self.view_is) in
    subst (λ n. AreBelow n c.as_slice.result.now) (sym count) (subst (AreBelow c.self.inside.lines) (sym c.as_slice.ensures.value) c.self.invariant.1)
