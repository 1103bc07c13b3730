use Rattle.std.proofs.Common.{List, refl, inr, subst}
use Rattle.tm_line.specs.Setting.{Setting}
use Rattle.tm_outside.specs.Causes.{Takes, TakesFront}
use Rattle.tm_app.specs.declared.play.Fault.TheVariants as fault
use Rattle.tm_app.specs.Command.{Lint}
use Rattle.tm_app.specs.Lint.{lint_text}
use Rattle.tm_app.specs.inner.Setup.{Linted}
use Rattle.tm_app.specs.Stops.{IsWriteStop}
use Rattle.tm_app.proofs.Outcomes.{load-outcome}
use Rattle.tm_app.proofs.PlayRuns.{takes-none}
use Rattle.tm_app.proofs.outcome.lint_file.Goals as goal

pub returns-in-Ok-lint : goal.returns-in-Ok-lint
returns-in-Ok-lint g c =
    let P : List Setting → Type 0 = λ l. Takes (g.S.Sink.taken c.args.out.now) (g.S.Sink.taken c.lint.new.out) (lint_text l) in
    (Lint c.args.settings.now, refl, (Linted c.in-Ok.loaded.settings.items, (c.in-Ok.loaded.budget, c.in-Ok.ensures.ok), (subst P c.as_slice.ensures.value c.in-Ok-lint.ensures.ok, refl)))

pub returns-in-Err-SinkFault : goal.returns-in-Err-SinkFault
returns-in-Err-SinkFault g c =
    let P : List Setting → Type 0 = λ l. IsWriteStop (TakesFront (g.S.Sink.taken c.args.out.now) (g.S.Sink.taken c.lint.new.out) (lint_text l)) (g.S.Sink.faults c.args.out.now) (g.S.Sink.faults c.lint.new.out) fault.SinkFault in
    (Lint c.args.settings.now, refl, tt, (Linted c.in-Ok.loaded.settings.items, (c.in-Ok.loaded.budget, c.in-Ok.ensures.ok), subst P c.as_slice.ensures.value (rw c.in-Err-SinkFault.field-0-is at c.in-Err-SinkFault.ensures.err)))

pub returns-in-Err-OutOfMemory : goal.returns-in-Err-OutOfMemory
returns-in-Err-OutOfMemory g c =
    let P : List Setting → Type 0 = λ l. IsWriteStop (TakesFront (g.S.Sink.taken c.args.out.now) (g.S.Sink.taken c.lint.new.out) (lint_text l)) (g.S.Sink.faults c.args.out.now) (g.S.Sink.faults c.lint.new.out) fault.OutOfMemory in
    inr (Lint c.args.settings.now, refl, tt, (Linted c.in-Ok.loaded.settings.items, (c.in-Ok.loaded.budget, c.in-Ok.ensures.ok), subst P c.as_slice.ensures.value (rw c.in-Err-OutOfMemory.field-0-is at c.in-Err-OutOfMemory.ensures.err)))

pub returns : goal.returns
returns g c = load-outcome _ _ _ _ _ _ _ _ c.in-Err.status (Lint c.args.settings.now, refl, c.in-Err.ensures.err, takes-none (g.S.Sink.taken c.args.out.now))
