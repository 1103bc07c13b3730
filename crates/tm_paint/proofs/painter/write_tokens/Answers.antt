use Rattle.std.proofs.Common.{ap, ◌∙◌, ◌++◌, inl, inr, arith}
use Rattle.tm_paint.proofs.Runs.{mark_runs-paint, mark_runs-skip, paint-step, all-runs}
use Rattle.tm_paint.proofs.painter.write_tokens.Goals as goal

pub loop-piece-preserved-then-piece-painted : goal.loop-piece-preserved-then-piece-painted
loop-piece-preserved-then-piece-painted c = record {
  runs = ap (λ l. c.loop-piece.tokens.items ++ l) (mark_runs-skip (record { end = 0; scopes = record { 0 = 0 }; meta = 0 }) c.loop-piece.last c.loop-piece.painted c.args.len c.loop-piece.piece-index c.args.pieces.now c.loop-piece-test.true (inl c.if-piece-painted.true)) ∙ c.loop-piece.invariant.runs;
  few = omega (arith, c.loop-piece.invariant.few);
  room = c.loop-piece.invariant.room;
}

pub loop-piece-preserved-then-len-painted : goal.loop-piece-preserved-then-len-painted
loop-piece-preserved-then-len-painted c = record {
  runs = ap (λ l. c.loop-piece.tokens.items ++ l) (mark_runs-skip (record { end = 0; scopes = record { 0 = 0 }; meta = 0 }) c.loop-piece.last c.loop-piece.painted c.args.len c.loop-piece.piece-index c.args.pieces.now c.loop-piece-test.true (inr c.if-len-painted.true)) ∙ c.loop-piece.invariant.runs;
  few = omega (arith, c.loop-piece.invariant.few);
  room = c.loop-piece.invariant.room;
}

pub loop-piece-preserved : goal.loop-piece-preserved
loop-piece-preserved c = record {
  runs = paint-step _ _ _ _ _ _ c.start.ensures.items (mark_runs-paint (record { end = 0; scopes = record { 0 = 0 }; meta = 0 }) c.loop-piece.last c.loop-piece.painted c.args.len c.loop-piece.piece-index c.args.pieces.now c.loop-piece-test.true c.if-piece-painted.false c.if-len-painted.false) c.loop-piece.invariant.runs;
  few = omega (arith, c.start.ensures.len, c.loop-piece.invariant.few);
  room = omega (arith, c.start.ensures.room, c.loop-piece.invariant.room);
}

pub returns : goal.returns
returns c = all-runs c.loop-piece.tokens.items c.args.pieces.now c.args.len c.args.end_meta c.loop-piece.piece-index c.loop-piece.last c.loop-piece.painted c.if-len-eq0.false c.loop-piece-test.false c.requires.reach c.loop-piece.invariant.runs
