use Rattle.std.proofs.Common.{Option}
use Rattle.std.specs.Prelude.{Ok, Err}
use Rattle.tm_defs.proofs.Growth.{slice_get-grown}
use Rattle.tm_defs.specs.Tables.{path_at}
use Rattle.tm_defs.specs.declared.frames.ScopeList.{ScopeList}
use Rattle.tm_defs.specs.declared.frames.TextId.{TextId}
use Rattle.tm_line_turns.specs.LineRun.{Part, end_made, makes, names_made}
use Rattle.tm_line_parts.proofs.Adding.{first-fails, same-fault, same-part, then-any}
use Rattle.tm_line_parts.proofs.parts.inside_of.Goals as goal

pub returns-in-Err : goal.returns-in-Err
returns-in-Err g c o =
    let l = g.R.LineRules.language c.args.level.now.rules.now in
    let text = c.args.level.now.text.now in
    let t = g.S.States.tables c.args.table.now in
    let u = g.S.States.tables c.push_content_names.new.table in
    let first : Part = makes (names_made (path_at t c.args.scopes) (l.content_names text c.args.rule c.args.m.now)) in
    let second : Part = makes (end_made (l.end_text text c.args.rule c.args.m.now)) in
    record { adds = first-fails l.meta first second t u o o c.in-Err.fault (c.in-Err.ensures.adds o); contents = tt; known = tt; end = tt }

pub returns-in-Ok-push_end : goal.returns-in-Ok-push_end
returns-in-Ok-push_end g c o =
    let l = g.R.LineRules.language c.args.level.now.rules.now in
    let text = c.args.level.now.text.now in
    let t = g.S.States.tables c.args.table.now in
    let u = g.S.States.tables c.push_content_names.new.table in
    let first : Part = makes (names_made (path_at t c.args.scopes) (l.content_names text c.args.rule c.args.m.now)) in
    let second : Part = makes (end_made (l.end_text text c.args.rule c.args.m.now)) in
    let v = g.S.States.tables c.push_end.new.table in
    let more = c.in-Ok-push_end.ensures.adds o in
    let given : ScopeList × Option TextId = (c.in-Ok.contents, c.in-Ok-push_end.end) in
    record {
      adds = then-any l.meta first second t u v o o o c.in-Ok.contents (Ok given) (c.in-Ok.ensures.adds o) (same-part l.meta second u v o o c.in-Ok-push_end.end given more);
      contents = slice_get-grown _ u.paths v.paths c.in-Ok.contents.0 _ more.grows.paths c.in-Ok.ensures.ok;
      known = c.in-Ok-push_end.ensures.known;
      end = c.in-Ok-push_end.ensures.ok;
    }

pub returns-in-Err-push_end : goal.returns-in-Err-push_end
returns-in-Err-push_end g c o =
    let l = g.R.LineRules.language c.args.level.now.rules.now in
    let text = c.args.level.now.text.now in
    let t = g.S.States.tables c.args.table.now in
    let u = g.S.States.tables c.push_content_names.new.table in
    let first : Part = makes (names_made (path_at t c.args.scopes) (l.content_names text c.args.rule c.args.m.now)) in
    let second : Part = makes (end_made (l.end_text text c.args.rule c.args.m.now)) in
    let v = g.S.States.tables c.push_end.new.table in
    record {
      adds = then-any l.meta first second t u v o o o c.in-Ok.contents (Err c.in-Err-push_end.fault) (c.in-Ok.ensures.adds o) (same-fault l.meta second u v o o c.in-Err-push_end.fault (c.in-Err-push_end.ensures.adds o));
      contents = tt;
      known = tt;
      end = tt;
    }
