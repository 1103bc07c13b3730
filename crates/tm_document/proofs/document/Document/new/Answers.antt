use Rattle.std.proofs.Common.{subst, sym}
use Rattle.tm_document.specs.Held.{IsSoundHeld}
use Rattle.tm_document.proofs.SoundDocuments.{new-is, sound-new}
use Rattle.tm_document.proofs.document.Document.new.Goals as goal

pub invariant_of-result : goal.invariant_of-result
invariant_of-result g c =
    subst (λ h. IsSoundHeld g.T.LineTok.plain g.T.LineTok.tokenized g.T.LineTok.plain_cost g.T.LineTok.entries_made h)
    (sym (new-is c.args.settings.now c.args.budget c.args.limit c.len.result c.args.text.lines c.in_ok-kept.kept c.len.ensures c.in_ok-kept.ensures))
    (sound-new g.T.LineTok.plain g.T.LineTok.tokenized g.T.LineTok.plain_cost g.T.LineTok.entries_made c.args.settings.now c.args.budget c.args.limit c.args.text.lines c.requires.settings)

pub returns : goal.returns
returns g c = new-is c.args.settings.now c.args.budget c.args.limit c.len.result c.args.text.lines c.in_ok-kept.kept c.len.ensures c.in_ok-kept.ensures
