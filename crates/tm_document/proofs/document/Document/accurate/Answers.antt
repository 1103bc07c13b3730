use Rattle.std.proofs.Common.{ap, sym, ◌∙◌, subst}
use Rattle.tm_machine.specs.Entries.{is_accurate}
use Rattle.tm_machine.proofs.Fronts.{accurate-front, accurate-none}
use Rattle.tm_document.specs.Held.{IsSoundHeld}
use Rattle.tm_document.proofs.SoundDocuments.{scratch-sound}
use Rattle.tm_document.proofs.document.Document.accurate.Goals as goal

pub returns-in-Some-clause-value : goal.returns-in-Some-clause-value
returns-in-Some-clause-value g c =
    sym (accurate-front c.self.inside.kept.entries c.args.i c.in-Some.front (sym c.in-Some.ensures)) ∙ ap (λ h. is_accurate h.entries c.args.i) c.self.view_is

pub returns-in-Some-clause-right : goal.returns-in-Some-clause-right
returns-in-Some-clause-right g c = λ good.
    scratch-sound g.T.LineTok.plain g.T.LineTok.tokenized g.T.LineTok.plain_cost g.T.LineTok.entries_made c.args.self.now (subst (λ h. IsSoundHeld g.T.LineTok.plain g.T.LineTok.tokenized g.T.LineTok.plain_cost g.T.LineTok.entries_made h) c.self.view_is c.self.invariant) c.args.i c.requires
    (sym (ap (λ h. is_accurate h.entries c.args.i) c.self.view_is) ∙ accurate-front c.self.inside.kept.entries c.args.i c.in-Some.front (sym c.in-Some.ensures) ∙ good)

pub returns-in-None-clause-value : goal.returns-in-None-clause-value
returns-in-None-clause-value g c =
    sym (accurate-none c.self.inside.kept.entries c.args.i (sym c.front.ensures ∙ c.in-None.is)) ∙ ap (λ h. is_accurate h.entries c.args.i) c.self.view_is

pub returns-in-None-clause-right : goal.returns-in-None-clause-right
returns-in-None-clause-right g c = λ good.
    scratch-sound g.T.LineTok.plain g.T.LineTok.tokenized g.T.LineTok.plain_cost g.T.LineTok.entries_made c.args.self.now (subst (λ h. IsSoundHeld g.T.LineTok.plain g.T.LineTok.tokenized g.T.LineTok.plain_cost g.T.LineTok.entries_made h) c.self.view_is c.self.invariant) c.args.i c.requires
    (sym (ap (λ h. is_accurate h.entries c.args.i) c.self.view_is) ∙ accurate-none c.self.inside.kept.entries c.args.i (sym c.front.ensures ∙ c.in-None.is))
