use Rattle.std.proofs.Common.{◌≡◌, ◌++◌, drop, None}
use Rattle.tm_line_turns.proofs.Pieces.{piece_runs}
use Rattle.tm_line_turns.proofs.painter.tokens_of.Given as goal

abbrev pub invariant-loop-piece : goal.invariant-loop-piece
invariant-loop-piece l = l.tokens.items ++ piece_runs l.last l.painted l.len (drop l.piece-index l.pieces) ≡ piece_runs None 0 l.len l.pieces
