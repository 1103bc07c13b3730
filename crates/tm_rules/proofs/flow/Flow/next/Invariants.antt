use Rattle.std.proofs.Common.{◌≡◌}
use Rattle.tm_rules.specs.inner.Flows.{tasks_of, IsFlow}
use Rattle.tm_rules.specs.inner.Tasks.{tasks_left}
use Rattle.tm_rules.proofs.flow.Flow.next.Given as goal

abbrev pub invariant-loop-self : goal.invariant-loop-self
invariant-loop-self l = record {
  flow : IsFlow l.fn.self.rules.now l.self;
  left : tasks_left l.fn.self.rules.now (tasks_of l.self) ≡ tasks_left l.fn.self.rules.now (tasks_of l.fn.self);
}

abbrev pub decreases-loop-self : goal.decreases-loop-self
decreases-loop-self l = l.self.steps
