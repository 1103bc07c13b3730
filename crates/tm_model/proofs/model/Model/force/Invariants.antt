use Rattle.std.proofs.Common.{◌-◌, length}
use Rattle.tm_model.proofs.ForcedRuns.{Ran, good_before}
use Rattle.tm_model.proofs.model.Model.force.Given as goal

abbrev pub invariant-lines : goal.invariant-lines
invariant-lines g l = Ran g.T.LineTok.plain g.T.LineTok.tokenized g.T.LineTok.plain_cost g.T.LineTok.entries_made l.fn.self l.self l.line l.done l.fn.steps l.steps

abbrev pub decreases-lines : goal.decreases-lines
decreases-lines g l = length l.self.entries - good_before l.self.entries
