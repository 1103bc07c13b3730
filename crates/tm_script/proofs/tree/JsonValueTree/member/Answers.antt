use Rattle.std.proofs.Common.{◌∙◌}
use Rattle.json.specs.Value.{value_view}
use Rattle.json.specs.Find as find
use Rattle.tm_script.proofs.PlainValues.{seen-as, plain-get}
use Rattle.tm_script.proofs.tree.JsonValueTree.member.Goals as goal

pub returns : goal.returns
returns c = seen-as c.get.result (find.get c.args.key.now (value_view c.args.self.now)) c.get.ensures ∙ plain-get c.args.key.now (value_view c.args.self.now)
