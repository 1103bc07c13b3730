use Rattle.serde_json.specs.View.{view}
use Rattle.tm_grammar.proofs.Lookups.{grammar-built}
use Rattle.tm_grammar.proofs.grammar.grammar_of.Goals as goal

pub returns : goal.returns
returns c = grammar-built (view c.args.value.now) c.in_ok-scope_name.scope_name c.in_ok-root.root c.in_ok-injections.injections c.in_ok-injection_selector.injection_selector
    c.in_ok-scope_name.ensures c.in_ok-root.ensures c.in_ok-injections.ensures c.in_ok-injection_selector.ensures
