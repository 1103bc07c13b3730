use Rattle.std.proofs.Common.{sym, ◌∙◌}
use Rattle.tm_line_parts.proofs.LayerSteps.{close-goes, goes-kept-any}
use Rattle.tm_line_parts.proofs.layers.+close.Goals as goal

pub returns-clause-adds : goal.returns-clause-adds
returns-clause-adds g n c =
    close-goes (g.R.LineRules.language c.args.level.now.rules.now).meta (g.S.States.tables c.args.table.now) c.args.layers.now c.in-Some.rest.now c.in-Some.last.now c.in-Some.ensures c.args.at c.args.out.now c.paint.new.out c.close.new.out _ c.close.result
    (sym c.ends_by.ensures ∙ c.if-not-ends_by.false) c.in_default-paint.ensures c.close.ensures.adds

pub returns-clause-keeps : goal.returns-clause-keeps
returns-clause-keeps g n c =
    goes-kept-any (g.R.LineRules.language c.args.level.now.rules.now).meta (g.S.States.tables c.args.table.now) c.args.layers.now c.in-Some.rest.now c.in-Some.last.now c.in-Some.ensures c.args.at c.close.result (sym c.ends_by.ensures ∙ c.if-not-ends_by.false) c.close.ensures.keeps
