use Rattle.std.proofs.Common.{ap, ◌∙◌}
use Rattle.tm_line_turns.specs.Captures.{innermost}
use Rattle.tm_line_parts.specs.Layers.{layers_at}
use Rattle.tm_defs.specs.Tables.{path_at}
use Rattle.tm_line_parts.proofs.Naming.{named-fails, named-refused, named-pushed}
use Rattle.tm_line_parts.proofs.layers.name.Goals as goal

pub returns-in_default-push : goal.returns-in_default-push
returns-in_default-push g c meta o =
    let filled = (g.R.LineRules.language c.args.level.now.rules.now).filled c.args.level.now.text.now c.args.m.now in
    let t = g.S.States.tables c.args.table.now in
    let u = g.S.States.tables c.push_group.new.table in
    rw c.in-Some.is (named-refused meta t u o filled (path_at t c.args.base) c.args.end c.args.layers.now.items c.in-Some.name c.innermost-outer.result (c.innermost-outer.ensures.is ∙ ap (λ l. innermost (path_at t c.args.base) (layers_at t l)) c.as_slice.ensures.value) _ c.in-Ok.scopes (c.in-Ok.ensures.adds meta o))

pub returns-in-Ok-push : goal.returns-in-Ok-push
returns-in-Ok-push g c meta o =
    let filled = (g.R.LineRules.language c.args.level.now.rules.now).filled c.args.level.now.text.now c.args.m.now in
    let t = g.S.States.tables c.args.table.now in
    let u = g.S.States.tables c.push_group.new.table in
    rw c.in-Some.is (named-pushed meta t u o filled (path_at t c.args.base) c.args.end c.args.layers.now.items c.in-Some.name c.innermost-outer.result (c.innermost-outer.ensures.is ∙ ap (λ l. innermost (path_at t c.args.base) (layers_at t l)) c.as_slice.ensures.value) _ c.in-Ok.scopes _ c.requires.layers c.in-Ok.ensures.ok (c.in-Ok.ensures.adds meta o) c.in-Ok-push.ensures.items)

pub returns-in-Err : goal.returns-in-Err
returns-in-Err g c meta o =
    let filled = (g.R.LineRules.language c.args.level.now.rules.now).filled c.args.level.now.text.now c.args.m.now in
    let t = g.S.States.tables c.args.table.now in
    let u = g.S.States.tables c.push_group.new.table in
    rw c.in-Some.is (named-fails meta t u o filled (path_at t c.args.base) c.args.end c.args.layers.now.items c.in-Some.name c.innermost-outer.result (c.innermost-outer.ensures.is ∙ ap (λ l. innermost (path_at t c.args.base) (layers_at t l)) c.as_slice.ensures.value) _ c.in-Err.fault (c.in-Err.ensures.adds meta o))
