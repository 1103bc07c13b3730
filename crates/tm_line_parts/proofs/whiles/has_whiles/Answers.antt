use Rattle.std.proofs.Common.{sym, ◌∙◌}
use Rattle.tm_defs.specs.Tables.{frame_at, state_at}
use Rattle.tm_line_parts.proofs.Passing.{some_while-found, some_while-rest}
use Rattle.tm_line_parts.proofs.whiles.has_whiles.Goals as goal

pub returns-then-has_while : goal.returns-then-has_while
returns-then-has_while g c =
    let t = g.S.States.tables c.args.table.now in
    let has_while = (g.R.LineRules.language c.args.rules.now).has_while in
    sym (c.loop-frame.invariant.1 ∙ some_while-found has_while (state_at t c.loop-frame.outer) (state_at t c.in-Some.below) (frame_at t c.in-Some.frame) c.in-Some.ensures.parts (sym c.has_while.ensures ∙ c.if-has_while.true))

pub loop-frame-preserved : goal.loop-frame-preserved
loop-frame-preserved g c =
    let t = g.S.States.tables c.args.table.now in
    let has_while = (g.R.LineRules.language c.args.rules.now).has_while in
    (c.in-Some.ensures.in_range.1, c.loop-frame.invariant.1 ∙ some_while-rest has_while (state_at t c.loop-frame.outer) (state_at t c.in-Some.below) (frame_at t c.in-Some.frame) c.in-Some.ensures.parts (sym c.has_while.ensures ∙ c.if-has_while.false))
