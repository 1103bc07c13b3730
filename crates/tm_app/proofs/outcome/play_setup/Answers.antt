use Rattle.std.proofs.Common.{◌∙◌, ap, Err}
use Rattle.tm_machine.specs.Changes.{lines_of}
use Rattle.tm_app.specs.inner.Setup.{setup_data}
use Rattle.tm_app.proofs.GrammarRuns.{setup-play, setup-stop}
use Rattle.tm_app.proofs.PlayRuns.{if_ok, if_err}
use Rattle.tm_app.proofs.TextSizes.{never-full}
use Rattle.tm_app.proofs.outcome.play_setup.Goals as goal

pub unreachable-requires-in-Err-TextFull : goal.unreachable-requires-in-Err-TextFull
unreachable-requires-in-Err-TextFull g c =
    let full = c.from_characters.ensures.fault c.in-Err-TextFull.field-0-0 (c.in-Err-TextFull.is ∙ ap Err c.in-Err-TextFull.field-0-is) in
    never-full c.as_slice.result.now c.in-Err-TextFull.field-0-0 c.as_slice.ensures.short full.0 full.1

pub returns-clause-ok : goal.returns-clause-ok
returns-clause-ok g c = if_ok c.counted.result _ _ (λ seen done. setup-play (setup_data c.args.setup) c.as_slice-2.result.now c.in-Ok.text.lines c.as_slice-3.result.now _ _ seen
    c.as_slice-2.ensures.value (c.in-Ok.ensures.ok.0 ∙ ap lines_of c.as_slice.ensures.value) c.as_slice-3.ensures.value done) c.counted.ensures.ok

pub returns-clause-err : goal.returns-clause-err
returns-clause-err g c = if_err c.counted.result _ _ (λ fault stopped. setup-stop (setup_data c.args.setup) c.as_slice-2.result.now c.in-Ok.text.lines c.as_slice-3.result.now _ _ _ _ fault
    c.as_slice-2.ensures.value (c.in-Ok.ensures.ok.0 ∙ ap lines_of c.as_slice.ensures.value) c.as_slice-3.ensures.value stopped) c.counted.ensures.err
