use Rattle.tm_app.proofs.PlayRuns.{takes-none}
use Rattle.tm_app.proofs.StandSteps.{bad-edit}
use Rattle.tm_app.proofs.StepsDone.{edit-done}
use Rattle.tm_app.proofs.play.do_edit.Goals as goal

pub returns-in-Ok-clause-ok : goal.returns-in-Ok-clause-ok
returns-in-Ok-clause-ok g c = λ before. edit-done g.T.LineTok.plain g.T.LineTok.tokenized g.T.LineTok.plain_cost g.T.LineTok.entries_made c.args.model.now c.change.new.self c.args.step.now c.args.change.now before c.requires c.in-Ok.ensures.can c.in-Ok.ensures.ok

pub returns-in-Err-BadPlace-clause-err : goal.returns-in-Err-BadPlace-clause-err
returns-in-Err-BadPlace-clause-err g c = λ before faults r m past s there reached.
    let cause = rw c.in-Err-BadPlace.field-0-is at c.in-Err-BadPlace.ensures.cause in
    (bad-edit g.T.LineTok.plain g.T.LineTok.tokenized g.T.LineTok.plain_cost g.T.LineTok.entries_made c.args.model.now c.args.step.now c.args.change.now _ c.requires cause.1 r m s, takes-none before)
