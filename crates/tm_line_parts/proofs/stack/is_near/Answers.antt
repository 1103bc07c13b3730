use Rattle.std.proofs.Common.{ap, sym, ◌∙◌}
use Rattle.tm_line_turns.specs.LineRun.{has, near}
use Rattle.tm_line_parts.specs.Stacks.{opens}
use Rattle.tm_line_parts.proofs.Bases.{near-stack}
use Rattle.tm_line_parts.proofs.stack.is_near.Goals as goal

pub returns-else-stack-rule : goal.returns-else-stack-rule
returns-else-stack-rule c t = near-stack t c.args.stack.now c.args.at c.args.rule c.are_near.result (sym c.is_at.ensures ∙ c.if-is_at.true) c.if-stack-rule.false (c.are_near.ensures t ∙ ap (λ l. has (near c.args.at (opens t l)) c.args.rule) c.as_slice.ensures.value)
