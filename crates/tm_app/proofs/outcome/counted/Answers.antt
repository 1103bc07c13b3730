use Rattle.tm_app.proofs.GrammarRuns.{lines-play, lines-stop}
use Rattle.tm_app.proofs.PlayRuns.{if_ok, if_err}
use Rattle.tm_app.proofs.outcome.counted.Goals as goal

pub returns-in-Ok-clause-ok : goal.returns-in-Ok-clause-ok
returns-in-Ok-clause-ok g c = if_ok c.play.result _ _ (λ seen done. lines-play c.args.settings.now c.args.budget c.args.text.lines c.in-Ok.model c.in-Ok.ensures c.args.script.now _ _ seen done) c.play.ensures.ok

pub returns-in-Ok-clause-err : goal.returns-in-Ok-clause-err
returns-in-Ok-clause-err g c = if_err c.play.result _ _ (λ fault stopped. lines-stop c.args.settings.now c.args.budget c.args.text.lines c.in-Ok.model c.in-Ok.ensures c.args.script.now _ _ _ _ fault stopped) c.play.ensures.err
