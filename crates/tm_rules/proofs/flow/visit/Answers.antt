use Rattle.std.proofs.Common.{List, ◌++◌, ap}
use Rattle.tm_rules.specs.inner.Tasks.{opened_by, tasks_left, stacked}
use Rattle.tm_rules.specs.declared.candidate.Candidate.{Candidate}
use Rattle.tm_rules.proofs.Flattened.{flattened-start}
use Rattle.tm_rules.proofs.flow.visit.Goals as goal

pub returns-in-None-clause-left : goal.returns-in-None-clause-left
returns-in-None-clause-left c =
    ap (λ (cs : List Candidate). cs ++ tasks_left c.args.rules.now (stacked c.args.tasks.now.items))
    (flattened-start c.args.rules.now (opened_by (stacked c.args.tasks.now.items)) c.args.number c.in-None.ensures)
