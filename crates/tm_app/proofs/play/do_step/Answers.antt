use Rattle.tm_app.proofs.StepsDone.{show-done, show-stopped}
use Rattle.tm_app.proofs.play.do_step.Goals as goal

pub returns-in-Ok-clause-ok : goal.returns-in-Ok-clause-ok
returns-in-Ok-clause-ok g c = show-done g.T.LineTok.plain g.T.LineTok.tokenized g.T.LineTok.plain_cost g.T.LineTok.entries_made c.args.model.now c.args.step.now _ _ c.in-Show.is c.prove_sound.ensures.accurate c.in-Ok.ensures.ok

pub returns-in-Err-clause-err : goal.returns-in-Err-clause-err
returns-in-Err-clause-err g c = show-stopped g.T.LineTok.plain g.T.LineTok.tokenized g.T.LineTok.plain_cost g.T.LineTok.entries_made c.args.model.now c.args.step.now _ _ _ _ c.in-Err.fault c.in-Show.is c.prove_sound.ensures.accurate c.in-Err.ensures.err
