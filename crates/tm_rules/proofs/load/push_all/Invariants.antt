use Rattle.std.proofs.Common.{◌≡◌, ◌++◌, map, drop}
use Rattle.tm_rules.proofs.load.push_all.Given as goal

abbrev pub invariant-loop-grammar : goal.invariant-loop-grammar
invariant-loop-grammar l = map (λ g. g.now) l.all.items ++ drop l.grammar-index l.grammars ≡ map (λ g. g.now) l.fn.all.items ++ l.grammars
