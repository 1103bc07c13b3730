use Rattle.tm_line_lint.proofs.Listed.{one-listed}
use Rattle.tm_line_lint.proofs.unreadable_with.Goals as goal

pub loop-n-preserved : goal.loop-n-preserved
loop-n-preserved c = one-listed c.args.rules.now c.loop-n.n c.rule-rule.result.now c.loop-n.found.items _ c.rule-rule.ensures c.loop-n.invariant c.in_ok-add_unreadable.ensures
