use Rattle.std.proofs.Common.{length, Some, true, refl, ap, sym, ◌∙◌}
use Rattle.tm_defs.specs.Tables.{frame_at}
use Rattle.tm_line_turns.specs.Language.{grammar_at}
use Rattle.tm_line_turns.specs.LineRun.{earlier}
use Rattle.tm_line_parts.specs.declared.rules.Out.{Out}
use Rattle.tm_line_parts.specs.Stacks.{place_at}
use Rattle.tm_line_parts.proofs.Passing.{search-done, test-as}
use Rattle.tm_line_parts.proofs.whiles.holds.Goals as goal

pub returns-in-Ok-Some-clause-tests : goal.returns-in-Ok-Some-clause-tests
returns-in-Ok-Some-clause-tests g c =
    let s = g.R.LineRules.language c.args.level.now.rules.now in
    let t = g.S.States.tables c.args.table.now in
    let v = g.S.States.tables c.holds_up.new.table in
    let text = c.args.level.now.text.now in
    let grammar = grammar_at s c.args.level.now.depth text in
    let w = c.args.way.now in
    let p = place_at t w in
    let o = earlier (frame_at t c.args.frame) in
    let now : Out = record { pieces = c.args.out.now.pieces; budget = c.while_match.new.budget } in
    let has = sym c.has_while.ensures ∙ c.if-not-has_while.false in
    let is = sym c.in-Ok-Some.field-0-is ∙ c.in-Ok-Some.ensures.found ∙ ap (s.while_match text (frame_at t c.args.frame) w.at w.first) c.is_anchored-anchored.ensures in
    test-as s.meta (length text) grammar p o t true v c.args.out.now c.holds_up.new.out c.holds_up.new.way c.holds_up.result has
    (search-done s.meta (length text) grammar p o t (Some c.in-Ok-Some.m) v c.args.out.now now c.holds_up.new.out c.holds_up.new.way c.holds_up.result is (rw c.is_anchored-anchored.ensures at c.in-Ok-Some.ensures.spends) refl c.holds_up.ensures)

pub returns-in-Ok-Some-clause-room : goal.returns-in-Ok-Some-clause-room
returns-in-Ok-Some-clause-room g c =
    g.met.R.LineRules.keeps c.args.level.now.rules.now _ (g.S.States.tables c.args.table.now) (g.S.States.tables c.holds_up.new.table) c.args.level.now.text.now c.while_match.new.room c.holds_up.ensures.adds.grows c.in-Ok-Some.ensures.room
