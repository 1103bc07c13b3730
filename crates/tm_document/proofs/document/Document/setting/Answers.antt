use Rattle.std.proofs.Common.{subst, sym, ap, length, ◌∙◌, ◌<◌}
use Rattle.tm_document.specs.Held.{IsSoundHeld, held_of, set_held}
use Rattle.tm_document.proofs.ChangedDocuments.{set-is, set-sound}
use Rattle.tm_document.proofs.document.Document.setting.Goals as goal

pub invariant_of-self : goal.invariant_of-self
invariant_of-self g c =
    subst (λ h. IsSoundHeld g.T.LineTok.plain g.T.LineTok.tokenized g.T.LineTok.plain_cost g.T.LineTok.entries_made h)
    (sym (set-is c.self.inside.settings.now c.self.inside.epoch c.args.number c.self.inside.version c.self.inside.budget c.self.inside.text.lines c.self.inside.kept c.clear.new.self c.self.invariant.lengths c.clear.ensures))
    (set-sound g.T.LineTok.plain g.T.LineTok.tokenized g.T.LineTok.plain_cost g.T.LineTok.entries_made (held_of c.self.inside.settings.now c.self.inside.epoch c.self.inside.version c.self.inside.budget c.self.inside.text.lines c.self.inside.kept) c.self.invariant c.args.number (subst (λ h. c.args.number < length h.settings) (sym c.self.view_is) c.requires))

pub returns : goal.returns
returns g c =
    set-is c.self.inside.settings.now c.self.inside.epoch c.args.number c.self.inside.version c.self.inside.budget c.self.inside.text.lines c.self.inside.kept c.clear.new.self c.self.invariant.lengths c.clear.ensures
    ∙ ap (λ h. set_held h c.args.number) c.self.view_is
