use Rattle.tm_line_lint.proofs.Listed.{one-listed}
use Rattle.tm_line.proofs.prepared.Prepared.unreadable.Goals as goal

pub loop-n-preserved : goal.loop-n-preserved
loop-n-preserved c = one-listed c.args.self.now c.loop-n.n c.rule.result.now c.loop-n.found.items _ (rw c.self.view_is at c.rule.ensures) c.loop-n.invariant c.in_ok-add_unreadable.ensures
