use Rattle.std.proofs.Common.{sym, ◌∙◌, subst, arith}
use Rattle.tm_document.specs.Held.{IsSoundHeld, held_of}
use Rattle.tm_document.proofs.ChangedDocuments.{plan-fits, committed-is, changed-is, changed-sound}
use Rattle.tm_document.proofs.document.Document.change.Goals as goal

pub replace-requires-clause-within : goal.replace-requires-clause-within
replace-requires-clause-within g c = (plan-fits c.self.inside.text.lines c.self.inside.kept.entries c.args.change.now c.effect.result (c.effect.ensures ∙ c.in_ok-plan.ensures.ok.0) c.self.invariant.lengths c.in_ok-plan.ensures.places c.in_ok-plan.ensures.fits).0

pub replace-requires-clause-old : goal.replace-requires-clause-old
replace-requires-clause-old g c = (plan-fits c.self.inside.text.lines c.self.inside.kept.entries c.args.change.now c.effect.result (c.effect.ensures ∙ c.in_ok-plan.ensures.ok.0) c.self.invariant.lengths c.in_ok-plan.ensures.places c.in_ok-plan.ensures.fits).1

pub replace-requires-clause-new : goal.replace-requires-clause-new
replace-requires-clause-new g c = (plan-fits c.self.inside.text.lines c.self.inside.kept.entries c.args.change.now c.effect.result (c.effect.ensures ∙ c.in_ok-plan.ensures.ok.0) c.self.invariant.lengths c.in_ok-plan.ensures.places c.in_ok-plan.ensures.fits).2

pub replace-requires-clause-small : goal.replace-requires-clause-small
replace-requires-clause-small g c = (plan-fits c.self.inside.text.lines c.self.inside.kept.entries c.args.change.now c.effect.result (c.effect.ensures ∙ c.in_ok-plan.ensures.ok.0) c.self.invariant.lengths c.in_ok-plan.ensures.places c.in_ok-plan.ensures.fits).3

pub invariant_of-self-2 : goal.invariant_of-self-2
invariant_of-self-2 g c =
    subst (λ h. IsSoundHeld g.T.LineTok.plain g.T.LineTok.tokenized g.T.LineTok.plain_cost g.T.LineTok.entries_made h) (sym (changed-is c.self.inside.settings.now c.self.inside.epoch c.self.inside.version c.self.inside.budget c.self.inside.text.lines c.commit-effect.new.self.lines c.self.inside.kept c.replace.new.self c.args.change.now c.effect.result (c.effect.ensures ∙ c.in_ok-plan.ensures.ok.0) (committed-is c.self.inside.text.lines c.plan.new.self.lines c.commit-effect.new.self.lines c.args.change.now c.in_ok-plan.plan.effect c.in_ok-plan.plan.lines c.in_ok-plan.ensures.ok.0 c.in_ok-plan.ensures.ok.1 c.plan.ensures.lines c.commit-effect.ensures.lines) c.in-Ok.ensures.ok))
    (changed-sound g.T.LineTok.plain g.T.LineTok.tokenized g.T.LineTok.plain_cost g.T.LineTok.entries_made (held_of c.self.inside.settings.now c.self.inside.epoch c.self.inside.version c.self.inside.budget c.self.inside.text.lines c.self.inside.kept) c.self.invariant c.args.change.now c.in_ok-plan.ensures.places)
