-- A flattening on its way.
use Rattle.std.specs.Prelude.{◌≡◌, List}
use Rattle.tm_rules.specs.inner.Tasks.{opened_by, stacked, AreMarked}
use Rattle.tm_rules.specs.declared.flow.Task.{Task}
use Rattle.tm_rules.specs.declared.flow.Flow.{Flow}
use Rattle.tm_defs.specs.declared.rules.Rule.{Rule}

-- its tasks, the next one first
abbrev pub tasks_of : Flow → List Task
tasks_of flow = stacked flow.tasks.items

-- it goes over these rules, and its marks say which of them are open
pub record IsFlow (rules : List Rule) (flow : Flow) : Type 0 where
  pub over : flow.rules.now ≡ rules
  pub marked : AreMarked rules flow.marks.items (opened_by (tasks_of flow))
