use Rattle.std.proofs.Common.{◌≡◌, ◌<◌, ◌+◌, length}
use Rattle.tm_defs.specs.Tables.{state_at}
use Rattle.tm_line_parts.proofs.start.depth_of.Given as goal

abbrev pub invariant-loop-below : goal.invariant-loop-below
invariant-loop-below g l =
    let t = g.S.States.tables l.table in
    (l.outer.0 < length t.states) × (length (state_at t l.fn.state) ≡ l.deep + length (state_at t l.outer))

abbrev pub decreases-loop-below : goal.decreases-loop-below
decreases-loop-below g l = length (state_at (g.S.States.tables l.table) l.outer)
