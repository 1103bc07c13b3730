use Rattle.std.proofs.Common.{◌≡◌}
use Rattle.tm_rules.specs.inner.Made.{AreOrdered}
use Rattle.tm_rules.proofs.only_lists.OnlyLists.make_acyclic.Given as goal

abbrev pub invariant-loop-step : goal.invariant-loop-step
invariant-loop-step l = record {
  rules : l.self.rules ≡ l.fn.self.rules;
  ordered : AreOrdered l.fn.self.rules.now l.self;
}
