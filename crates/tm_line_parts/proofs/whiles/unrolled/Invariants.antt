use Rattle.std.proofs.Common.{◌≡◌, ◌<◌, ◌++◌, ◌∷◌, [], length}
use Rattle.tm_defs.specs.Tables.{IsFrameOf, frame_at, state_at}
use Rattle.tm_line_parts.specs.Stacks.{AreNumbers, frames_at}
use Rattle.tm_line_parts.proofs.whiles.unrolled.Given as goal

abbrev pub invariant-loop-next : goal.invariant-loop-next
invariant-loop-next g l =
    let t = g.S.States.tables l.table in
    record {
      outer : l.outer.0 < length t.states;
      outermost : IsFrameOf t l.outermost;
      frames : AreNumbers t l.frames.items;
      all : state_at t l.outer ++ frame_at t l.outermost ∷ frames_at t l.frames.items ≡ state_at t l.fn.base ++ frame_at t l.fn.frame ∷ [];
    }

abbrev pub decreases-loop-next : goal.decreases-loop-next
decreases-loop-next g l = length (state_at (g.S.States.tables l.table) l.outer)
