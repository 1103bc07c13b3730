use Rattle.std.proofs.Common.{subst}
use Rattle.tm_document.specs.Held.{IsSoundHeld}
use Rattle.tm_document.proofs.SoundDocuments.{accurate-sound}
use Rattle.tm_document.proofs.document.Document.prove_sound.Goals as goal

pub returns-clause-accurate : goal.returns-clause-accurate
returns-clause-accurate g c =
    accurate-sound g.T.LineTok.plain g.T.LineTok.tokenized g.T.LineTok.plain_cost g.T.LineTok.entries_made c.args.self.now
    (subst (λ h. IsSoundHeld g.T.LineTok.plain g.T.LineTok.tokenized g.T.LineTok.plain_cost g.T.LineTok.entries_made h) c.self.view_is c.self.invariant)
