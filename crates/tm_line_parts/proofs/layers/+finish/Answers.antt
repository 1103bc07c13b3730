use Rattle.tm_defs.specs.Tables.{path_at}
use Rattle.tm_line_turns.specs.LineRun.{paint}
use Rattle.tm_line_parts.proofs.LayerSteps.{finish-last}
use Rattle.tm_line_parts.proofs.layers.+finish.Goals as goal

pub returns : goal.returns
returns g n c =
    let t = g.S.States.tables c.args.table.now in
    finish-last (g.R.LineRules.language c.args.level.now.rules.now).meta t c.args.layers.now c.in-Some.rest.now c.in-Some.last.now c.in-Some.ensures (paint c.args.end (path_at t c.args.base)) c.args.out.now c.paint-2.new.out c.finish.new.out _ c.finish.result
    c.in_default-paint.ensures c.finish.ensures
