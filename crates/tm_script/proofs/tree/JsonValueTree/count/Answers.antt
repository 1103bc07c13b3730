use Rattle.std.proofs.Common.{◌∙◌}
use Rattle.tm_script.proofs.PlainValues.{array-count}
use Rattle.tm_script.proofs.tree.JsonValueTree.count.Goals as goal

pub returns-in-Array : goal.returns-in-Array
returns-in-Array c = array-count c.args.self.now c.in-Array.items c.len.result c.in-Array.is (c.len.ensures ∙ c.in-Array.items.ok.0)
