use Rattle.std.proofs.Common.{◌∙◌}
use Rattle.serde_json.specs.View.{view}
use Rattle.tm_grammar.proofs.Lookups.{root-built}
use Rattle.tm_grammar.proofs.grammar.root_in.Goals as goal

pub returns : goal.returns
returns c = root-built (view c.args.value.now) c.new-path.result c.plain.result c.in_ok-patterns.patterns c.in_ok-repository.repository (c.new-path.ensures ∙ c.new.ensures.items) c.plain.ensures c.in_ok-patterns.ensures c.in_ok-repository.ensures
