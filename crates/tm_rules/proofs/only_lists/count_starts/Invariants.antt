use Rattle.tm_rules.specs.inner.Flows.{IsFlow}
use Rattle.tm_rules.proofs.only_lists.count_starts.Given as goal

abbrev pub invariant-loop-count : goal.invariant-loop-count
invariant-loop-count l = IsFlow l.fn.flow.rules.now l.flow
