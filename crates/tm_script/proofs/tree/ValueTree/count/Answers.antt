use Rattle.std.proofs.Common.{◌∙◌}
use Rattle.serde_json.specs.View.{view}
use Rattle.tm_script.proofs.Listed.{length-is}
use Rattle.tm_script.proofs.tree.ValueTree.count.Goals as goal

pub returns-in-Some : goal.returns-in-Some
returns-in-Some c = length-is (view c.args.self.now) c.in-Some.items.now.items _ c.in-Some.ensures (c.len.ensures ∙ c.in-Some.items.now.ok.0)
