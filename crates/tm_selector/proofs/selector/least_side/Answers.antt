use Rattle.std.proofs.Common.{ap, ◌∙◌}
use Rattle.tm_selector.specs.Walk.{ended}
use Rattle.tm_selector.proofs.Reading.{ended-is}
use Rattle.tm_selector.proofs.selector.least_side.Goals as goal

pub returns : goal.returns
returns g c =
    let s = g.S.Scopes.names c.args.scopes.now in
    c.ended.ensures ∙ ap ended c.walked.ensures ∙ ended-is s c.args.tokens.now c.if-is_empty.ensures
