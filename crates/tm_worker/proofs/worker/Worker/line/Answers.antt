use Rattle.std.proofs.Common.{ap, sym, ◌∙◌, length, subst}
use Rattle.tm_document.specs.Held.{setting_now}
use Rattle.tm_machine.specs.Numbered.{IsTurnCause}
use Rattle.tm_worker.proofs.WorkerSteps.{length-marked}
use Rattle.tm_worker.proofs.worker.Worker.line.Goals as goal

pub invariant_of-self-in-Ok-Done : goal.invariant_of-self-in-Ok-Done
invariant_of-self-in-Ok-Done g c =
    ap length c.mark.ensures ∙ length-marked c.reserve.new.self.marks c.in-Ok-Done.i ∙ ap length c.reserve.ensures.marks ∙ c.self.invariant ∙ sym (ap (λ h. length h.lines) c.line.ensures.others)

pub returns-in-Err-clause-cause : goal.returns-in-Err-clause-cause
returns-in-Err-clause-cause g c =
    subst (λ w. IsTurnCause (setting_now g.T.LineTok.plain g.T.LineTok.tokenized g.T.LineTok.plain_cost g.T.LineTok.entries_made w.held) w.held.lines w.held.entries c.line.new.self.tables c.in-Err.fault) c.self.view_is c.in-Err.ensures.cause
