use Rattle.std.proofs.Common.{◌∙◌}
use Rattle.json.specs.Value.{value_view}
use Rattle.json.specs.Find as find
use Rattle.tm_script.proofs.PlainValues.{seen-as, plain-at}
use Rattle.tm_script.proofs.tree.JsonValueTree.item.Goals as goal

pub returns : goal.returns
returns c = seen-as c.at.result (find.at c.args.place (value_view c.args.self.now)) c.at.ensures ∙ plain-at c.args.place (value_view c.args.self.now)
