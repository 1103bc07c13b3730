use Rattle.std.proofs.Common.{◌≡◌, [], ◌∷◌, List, ap, ◌∙◌}
use Rattle.tm_rules.specs.inner.Tasks.{tasks_left, stacked}
use Rattle.tm_rules.specs.declared.flow.Task.{Task}
use Rattle.tm_rules.specs.declared.flow.Task.TheVariants.{Visit}
use Rattle.tm_rules.proofs.Tasked.{left-begun, stacked-push}
use Rattle.tm_rules.proofs.flow.Flow.begin.Goals as goal

pub returns-clause-flow : goal.returns-clause-flow
returns-clause-flow c =
    let new : stacked c.push.new.self.items ≡ Visit c.args.number ∷ [] =
    ap stacked c.in_ok-push.ensures.items ∙ stacked-push c.args.self.now.tasks.items (Visit c.args.number) ∙ ap (λ (ts : List Task). Visit c.args.number ∷ ts) c.requires.ended in
    record { over = c.requires.flow.over; marked = rw new (rw c.requires.ended at c.requires.flow.marked) }

pub returns-clause-left : goal.returns-clause-left
returns-clause-left c =
    let new : stacked c.push.new.self.items ≡ Visit c.args.number ∷ [] =
    ap stacked c.in_ok-push.ensures.items ∙ stacked-push c.args.self.now.tasks.items (Visit c.args.number) ∙ ap (λ (ts : List Task). Visit c.args.number ∷ ts) c.requires.ended in
    ap (tasks_left c.args.self.now.rules.now) new ∙ left-begun c.args.self.now.rules.now c.args.number
