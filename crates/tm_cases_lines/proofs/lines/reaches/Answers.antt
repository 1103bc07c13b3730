use Rattle.tm_cases_lines.proofs.Reaches.{reach}
use Rattle.tm_cases_lines.proofs.lines.reaches.Goals as goal

pub returns-then-len-piece : goal.returns-then-len-piece
returns-then-len-piece g c = reach g.args.pieces.now g.loop-piece.piece-index (record { end = 0; meta = 0 }) g.args.len g.loop-piece-test.true g.if-len-piece.true
