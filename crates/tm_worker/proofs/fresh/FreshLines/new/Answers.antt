use Rattle.std.proofs.Common.{[], ap, refl, ◌∙◌}
use Rattle.tm_worker.specs.Fresh.{covers, marks_of}
use Rattle.tm_worker.proofs.Tests.{tests-false}
use Rattle.tm_worker.proofs.fresh.FreshLines.new.Goals as goal

pub returns : goal.returns
returns c = ap (marks_of c.args.lines) c.new.ensures.items ∙ tests-false (covers []) 0 c.args.lines (λ j lt. refl)
