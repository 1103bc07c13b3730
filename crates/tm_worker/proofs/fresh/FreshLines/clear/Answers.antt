use Rattle.std.proofs.Common.{ap, ◌∙◌}
use Rattle.tm_worker.specs.Fresh.{Fresh, marks_of}
use Rattle.tm_worker.proofs.FreshSteps.{marks-cleared}
use Rattle.tm_worker.proofs.fresh.FreshLines.clear.Goals as goal

pub returns : goal.returns
returns c = ap (marks_of c.self.inside.lines) c.clear.ensures.items ∙ marks-cleared c.self.inside.lines c.self.inside.spans.items c.args.self.now.marks (ap (λ (f : Fresh). f.marks) c.self.view_is)
