use Rattle.std.proofs.Common.{◌≡◌, [], ◌++◌, map, drop}
use Rattle.tm_rules.specs.Rules.{rules_from}
use Rattle.tm_rules.proofs.walk.rules_of.Given as goal

abbrev pub invariant-loop-i : goal.invariant-loop-i
invariant-loop-i l = record {
  scopes : l.walk.scopes.items ≡ [];
  rules : l.walk.rules.items ++ rules_from l.loaded (drop l.i l.loaded) (map (λ g. g.now) (drop l.i l.grammars)) ≡ rules_from l.loaded l.loaded (map (λ g. g.now) l.grammars);
}
