use Rattle.std.proofs.Common.{◌∙◌}
use Rattle.tm_rules.proofs.Keys.{named-keyed}
use Rattle.tm_rules.proofs.loaded.find_in.Goals as goal

pub returns : goal.returns
returns c = c.copied.ensures ∙ c.get.ensures.value ∙ named-keyed c.args.name.now c.args.numbers.now.entries
