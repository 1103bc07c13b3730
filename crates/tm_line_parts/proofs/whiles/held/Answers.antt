use Rattle.std.proofs.Common.{length, refl}
use Rattle.tm_defs.specs.Tables.{frame_at, state_at}
use Rattle.tm_line_turns.specs.Language.{grammar_at}
use Rattle.tm_line_parts.specs.Stacks.{frames_at}
use Rattle.tm_line_parts.proofs.Passing.{held-refused, held-starts}
use Rattle.tm_line_parts.proofs.whiles.held.Goals as goal

pub returns-in-Ok-while_pass-clause-starts : goal.returns-in-Ok-while_pass-clause-starts
returns-in-Ok-while_pass-clause-starts g c scopes =
    let s = g.R.LineRules.language c.args.level.now.rules.now in
    let t = g.S.States.tables c.args.table.now in
    let v = g.S.States.tables c.while_pass.new.table in
    let text = c.args.level.now.text.now in
    let grammar = grammar_at s c.args.level.now.depth text in
    let top = frame_at t c.in-Some.frame in
    held-starts s.meta (length text) grammar scopes (state_at t c.args.state) (state_at t c.in-Some.base) (frames_at t c.in-Ok.frames.items) (frame_at t c.in-Ok.outermost) top c.in-Some.ensures.parts c.in-Ok.ensures.all t v c.args.out.now c.while_pass.new.out c.while_pass.new.way c.in-Ok-while_pass.field-0
    (rw (c.lowest_way-way.ensures.place top refl) at c.in-Ok-while_pass.ensures.passes)

pub returns-clause-starts : goal.returns-clause-starts
returns-clause-starts g c scopes =
    let s = g.R.LineRules.language c.args.level.now.rules.now in
    let t = g.S.States.tables c.args.table.now in
    let v = g.S.States.tables c.while_pass.new.table in
    let text = c.args.level.now.text.now in
    let grammar = grammar_at s c.args.level.now.depth text in
    let top = frame_at t c.in-Some.frame in
    held-refused s.meta (length text) grammar scopes (state_at t c.args.state) (state_at t c.in-Some.base) (frames_at t c.in-Ok.frames.items) (frame_at t c.in-Ok.outermost) top c.in-Some.ensures.parts c.in-Ok.ensures.all t v c.args.out.now c.while_pass.new.out c.while_pass.new.way c.in-Err.fault
    (rw (c.lowest_way-way.ensures.place top refl) at c.in-Err.ensures.passes)
