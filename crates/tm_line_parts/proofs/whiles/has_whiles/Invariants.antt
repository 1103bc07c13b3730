use Rattle.std.proofs.Common.{◌≡◌, ◌<◌, length}
use Rattle.tm_defs.specs.Tables.{state_at}
use Rattle.tm_line_turns.specs.Line.{some_while}
use Rattle.tm_line_parts.proofs.whiles.has_whiles.Given as goal

abbrev pub invariant-loop-frame : goal.invariant-loop-frame
invariant-loop-frame g l =
    let t = g.S.States.tables l.table in
    let has_while = (g.R.LineRules.language l.rules).has_while in
    (l.outer.0 < length t.states) × (some_while has_while (state_at t l.fn.state) ≡ some_while has_while (state_at t l.outer))

abbrev pub decreases-loop-frame : goal.decreases-loop-frame
decreases-loop-frame g l = length (state_at (g.S.States.tables l.table) l.outer)
