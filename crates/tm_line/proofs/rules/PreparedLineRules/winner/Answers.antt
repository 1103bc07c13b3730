use Rattle.std.proofs.Common.{length, subst, sym}
use Rattle.tm_defs.specs.Tables.{frame_at}
use Rattle.tm_line_turns.specs.Laws.{IsWinnerWithin}
use Rattle.tm_line.specs.inner.FoundWithin.{finds-in-text}
use Rattle.tm_line.proofs.rules.PreparedLineRules.winner.Goals as goal

pub returns-in-Ok-clause-within : goal.returns-in-Ok-clause-within
returns-in-Ok-clause-within g c =
    let a = c.args in
    let f = frame_at (g.S.States.tables a.table.now) a.asked.frame in
    subst (IsWinnerWithin (length a.self.now) (length a.text.now)) (sym c.in-Ok.ensures.found) (finds-in-text a.self.now a.text.now f a.asked.has_end a.asked.at a.asked.first a.asked.anchored)
