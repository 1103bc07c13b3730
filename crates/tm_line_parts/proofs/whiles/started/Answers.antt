use Rattle.std.proofs.Common.{length, sym, ◌∙◌}
use Rattle.tm_defs.specs.Tables.{state_at}
use Rattle.tm_line_turns.specs.Language.{grammar_at}
use Rattle.tm_line_parts.proofs.Passing.{start-free, start-whole}
use Rattle.tm_line_parts.proofs.whiles.started.Goals as goal

pub returns-then-not-has_whiles-clause-starts : goal.returns-then-not-has_whiles-clause-starts
returns-then-not-has_whiles-clause-starts g c =
    let s = g.R.LineRules.language c.args.level.now.rules.now in
    let t = g.S.States.tables c.args.table.now in
    let v = g.S.States.tables c.start_way.new.table in
    let text = c.args.level.now.text.now in
    let grammar = grammar_at s c.args.level.now.depth text in
    let state = state_at t c.args.start in
    let none = sym c.has_whiles.ensures ∙ c.if-not-has_whiles.true in
    start-free s.meta (length text) grammar c.args.scopes.now state t v c.args.out.now c.start_way.result none
    (start-whole s.meta (length text) grammar c.args.scopes.now state t v c.args.out.now c.start_way.result c.start_way.ensures.stack c.start_way.ensures.at c.start_way.ensures.place (c.start_way.ensures.adds s.meta c.args.out.now))

pub returns-then-not-has_whiles-clause-room : goal.returns-then-not-has_whiles-clause-room
returns-then-not-has_whiles-clause-room g c =
    let s = g.R.LineRules.language c.args.level.now.rules.now in
    g.met.R.LineRules.keeps c.args.level.now.rules.now _ (g.S.States.tables c.args.table.now) (g.S.States.tables c.start_way.new.table) c.args.level.now.text.now c.args.room.now (c.start_way.ensures.adds s.meta c.args.out.now).grows c.requires.room

pub returns-clause-starts : goal.returns-clause-starts
returns-clause-starts g c = c.held.ensures.starts c.args.scopes.now
