use Rattle.std.proofs.Common.{Some, ap, subst, sym, ◌∙◌}
use Rattle.tm_defs.specs.Tables.{state_at}
use Rattle.tm_document.specs.Held.{setting_now}
use Rattle.tm_state.specs.Deltas.{IsDifference}
use Rattle.tm_worker.proofs.GoodLines.{good-end, good-tokens, right-item}
use Rattle.tm_worker.proofs.runs.item_of.Goals as goal

pub unreachable-requires : goal.unreachable-requires
unreachable-requires g c = good-tokens (setting_now g.T.LineTok.plain g.T.LineTok.tokenized g.T.LineTok.plain_cost g.T.LineTok.entries_made c.args.document.now) c.args.document.now.budget c.args.document.now.lines c.args.document.now.entries c.args.document.now.tables c.args.i c.entry-entry.result.now c.prove_sound.ensures.sound.right c.requires.good c.entry-entry.ensures.entry c.requires.within c.in_default.is

pub unreachable-requires-in_default-end : goal.unreachable-requires-in_default-end
unreachable-requires-in_default-end g c = good-end (setting_now g.T.LineTok.plain g.T.LineTok.tokenized g.T.LineTok.plain_cost g.T.LineTok.entries_made c.args.document.now) c.args.document.now.budget c.args.document.now.lines c.args.document.now.entries c.args.document.now.tables c.args.i c.entry-entry.result.now c.prove_sound.ensures.sound.right c.requires.good c.entry-entry.ensures.entry c.requires.within c.in_default-end.is

pub returns-clause-right : goal.returns-clause-right
returns-clause-right g c =
    right-item (setting_now g.T.LineTok.plain g.T.LineTok.tokenized g.T.LineTok.plain_cost g.T.LineTok.entries_made c.args.document.now) c.args.document.now.budget c.args.document.now.lines c.args.document.now.entries c.args.document.now.tables c.args.i c.entry-entry.result.now c.prove_sound.ensures.sound.right c.requires.good c.entry-entry.ensures.entry c.args.before c.in-Some-end.end _ c.requires.begins c.in_ok-line.ensures (c.in-Some.is ∙ ap Some (sym c.in_ok-tokens.ensures)) c.in-Some-end.is
    (subst (λ t. IsDifference (state_at t c.args.before) (state_at t c.in-Some-end.end) c.in_ok-delta.delta) c.table.ensures c.in_ok-delta.ensures)
