use Rattle.std.proofs.Common.{◌≡◌, ◌++◌}
use Rattle.tm_rules.specs.inner.Flows.{tasks_of, IsFlow}
use Rattle.tm_rules.specs.inner.Tasks.{tasks_left}
use Rattle.tm_rules.proofs.only_lists.push_starts.Given as goal

abbrev pub invariant-loop-taken : goal.invariant-loop-taken
invariant-loop-taken l = record {
  flow : IsFlow l.fn.flow.rules.now l.flow;
  list : l.list.items ++ tasks_left l.fn.flow.rules.now (tasks_of l.flow) ≡ l.fn.list.items ++ tasks_left l.fn.flow.rules.now (tasks_of l.fn.flow);
}
