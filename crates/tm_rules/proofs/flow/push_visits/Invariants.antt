use Rattle.std.proofs.Common.{◌≡◌, ◌++◌, map, drop}
use Rattle.tm_rules.specs.inner.Tasks.{stacked}
use Rattle.tm_rules.specs.declared.flow.Task.TheVariants.{Visit}
use Rattle.tm_rules.proofs.flow.push_visits.Given as goal

abbrev pub invariant-loop-i : goal.invariant-loop-i
invariant-loop-i l = stacked l.tasks.items ≡ map Visit (drop l.i l.numbers) ++ stacked l.fn.tasks.items
