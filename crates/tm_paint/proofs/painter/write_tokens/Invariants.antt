use Rattle.std.proofs.Common.{◌≡◌, ◌≤◌, ◌++◌, drop, length, None, vec_len, vec_capacity}
use Rattle.tm_paint.specs.Painted.{marks}
use Rattle.tm_paint.proofs.Pieces.{mark_runs}
use Rattle.tm_paint.proofs.painter.write_tokens.Given as goal

abbrev pub invariant-loop-piece : goal.invariant-loop-piece
invariant-loop-piece l = record {
  runs : l.tokens.items ++ mark_runs l.last l.painted l.len (marks (drop l.piece-index l.pieces)) ≡ mark_runs None 0 l.len (marks l.pieces);
  few : vec_len l.tokens ≤ l.piece-index;
  room : length l.pieces ≤ vec_capacity l.tokens;
}
