use Rattle.tm_grammar.proofs.Depths.{found-below}
use Rattle.serde_json.specs.View.{view}
use Rattle.tm_grammar.proofs.values.member.Goals as goal

pub returns-clause-deeper : goal.returns-clause-deeper
returns-clause-deeper c = found-below c.get.result c.args.key.now (view c.args.value.now) c.get.ensures
