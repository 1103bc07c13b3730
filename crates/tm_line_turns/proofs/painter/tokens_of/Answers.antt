use Rattle.tm_line_turns.proofs.Runs.{piece_runs-paint, piece_runs-skip, paint-step, all-runs}
use Rattle.std.proofs.Common.{ap, ◌∙◌, ◌++◌, inl, inr}
use Rattle.tm_line_turns.proofs.painter.tokens_of.Goals as goal

pub loop-piece-preserved-then-piece-painted : goal.loop-piece-preserved-then-piece-painted
loop-piece-preserved-then-piece-painted c =
    ap (λ l. c.loop-piece.tokens.items ++ l) (piece_runs-skip _ c.loop-piece.last c.loop-piece.painted c.args.len c.loop-piece.piece-index c.args.pieces.now c.loop-piece-test.true (inl c.if-piece-painted.true)) ∙ c.loop-piece.invariant

pub loop-piece-preserved-then-len-painted : goal.loop-piece-preserved-then-len-painted
loop-piece-preserved-then-len-painted c =
    ap (λ l. c.loop-piece.tokens.items ++ l) (piece_runs-skip (record { end = 0; meta = 0 }) c.loop-piece.last c.loop-piece.painted c.args.len c.loop-piece.piece-index c.args.pieces.now c.loop-piece-test.true (inr c.if-len-painted.true)) ∙ c.loop-piece.invariant

pub loop-piece-preserved : goal.loop-piece-preserved
loop-piece-preserved c =
    paint-step _ _ _ _ _ _ c.in_ok-start.ensures (piece_runs-paint (record { end = 0; meta = 0 }) c.loop-piece.last c.loop-piece.painted c.args.len c.loop-piece.piece-index c.args.pieces.now c.loop-piece-test.true c.if-piece-painted.false c.if-len-painted.false) c.loop-piece.invariant

pub returns : goal.returns
returns c = c.new-2.ensures ∙ all-runs c.loop-piece.tokens.items c.args.pieces.now c.args.len c.args.end_meta c.loop-piece.piece-index c.loop-piece.last c.loop-piece.painted c.if-len-eq0.false c.loop-piece-test.false c.requires.reach c.loop-piece.invariant
