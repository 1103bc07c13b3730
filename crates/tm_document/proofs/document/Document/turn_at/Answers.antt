use Rattle.std.proofs.Common.{◌≡◌, Some, ap, sym, ◌∙◌, subst, get_or, arith}
use Rattle.std.proofs.lemmas.Option.{slice_get-get_or}
use Rattle.tm_machine.specs.Entries.{front}
use Rattle.tm_document.specs.Held.{held_of}
use Rattle.tm_document.proofs.SoundDocuments.{turned-now, grown-now, caused-now, sound-now, front-begins, short-line}
use Rattle.tm_document.proofs.document.Document.turn_at.Goals as goal

pub turn-requires-clause-front : goal.turn-requires-clause-front
turn-requires-clause-front g c = (subst (λ h. front h.entries ≡ Some c.args.i) (sym c.self.view_is) c.requires)

pub turn-requires-clause-start : goal.turn-requires-clause-start
turn-requires-clause-start g c = front-begins g.T.LineTok.plain g.T.LineTok.tokenized g.T.LineTok.plain_cost g.T.LineTok.entries_made (held_of c.self.inside.settings.now c.self.inside.epoch c.self.inside.version c.self.inside.budget c.self.inside.text.lines c.self.inside.kept) c.self.invariant c.args.i (subst (λ h. front h.entries ≡ Some c.args.i) (sym c.self.view_is) c.requires)

pub turn-requires-clause-short : goal.turn-requires-clause-short
turn-requires-clause-short g c = let short = short-line 16777216 c.self.inside.text.lines c.args.i c.deref.result.now c.prove_known.ensures.small.short (c.line-line.ensures ∙ ap Some (sym c.deref.ensures)) in omega (arith, short)

pub invariant_of-self : goal.invariant_of-self
invariant_of-self g c = sound-now g.T.LineTok.plain g.T.LineTok.tokenized g.T.LineTok.plain_cost g.T.LineTok.entries_made c.self.inside.settings.now c.self.inside.epoch c.self.inside.version c.self.inside.budget c.self.inside.text.lines c.self.inside.kept c.turn.new.self c.args.self.now c.self.view_is (get_or c.self.inside.settings.now c.self.inside.epoch c.index-self-self.result) (slice_get-get_or c.self.inside.settings.now c.self.inside.epoch c.index-self-self.result c.self.invariant.epoch) c.args.i c.deref.result.now (c.line-line.ensures ∙ ap Some (sym c.deref.ensures)) c.turn.result c.self.invariant c.turn.ensures.turn c.turn.ensures.err

pub returns-clause-turn : goal.returns-clause-turn
returns-clause-turn g c = turned-now g.T.LineTok.plain g.T.LineTok.tokenized g.T.LineTok.plain_cost g.T.LineTok.entries_made c.self.inside.settings.now c.self.inside.epoch c.self.inside.version c.self.inside.budget c.self.inside.text.lines c.self.inside.kept c.turn.new.self c.args.self.now c.self.view_is (get_or c.self.inside.settings.now c.self.inside.epoch c.index-self-self.result) (slice_get-get_or c.self.inside.settings.now c.self.inside.epoch c.index-self-self.result c.self.invariant.epoch) c.args.i c.deref.result.now (c.line-line.ensures ∙ ap Some (sym c.deref.ensures)) c.turn.result c.turn.ensures.turn

pub returns-clause-grows : goal.returns-clause-grows
returns-clause-grows g c = grown-now g.T.LineTok.plain g.T.LineTok.tokenized g.T.LineTok.plain_cost g.T.LineTok.entries_made c.self.inside.settings.now c.self.inside.epoch c.self.inside.version c.self.inside.budget c.self.inside.text.lines c.self.inside.kept c.turn.new.self c.args.self.now c.self.view_is (get_or c.self.inside.settings.now c.self.inside.epoch c.index-self-self.result) (slice_get-get_or c.self.inside.settings.now c.self.inside.epoch c.index-self-self.result c.self.invariant.epoch) c.args.i c.deref.result.now (c.line-line.ensures ∙ ap Some (sym c.deref.ensures)) c.turn.result c.turn.ensures.grows

pub returns-clause-cause : goal.returns-clause-cause
returns-clause-cause g c = caused-now g.T.LineTok.plain g.T.LineTok.tokenized g.T.LineTok.plain_cost g.T.LineTok.entries_made c.self.inside.settings.now c.self.inside.epoch c.self.inside.version c.self.inside.budget c.self.inside.text.lines c.self.inside.kept c.turn.new.self c.args.self.now c.self.view_is (get_or c.self.inside.settings.now c.self.inside.epoch c.index-self-self.result) (slice_get-get_or c.self.inside.settings.now c.self.inside.epoch c.index-self-self.result c.self.invariant.epoch) c.args.i c.deref.result.now (c.line-line.ensures ∙ ap Some (sym c.deref.ensures)) c.turn.result c.turn.ensures.cause
