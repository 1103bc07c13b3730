use Rattle.std.proofs.Common.{◌≡◌, ◌++◌, map, drop}
use Rattle.tm_rules.specs.Rules.{loaded_from}
use Rattle.tm_rules.proofs.load.loaded_of.Given as goal

abbrev pub invariant-loop-i : goal.invariant-loop-i
invariant-loop-i l = l.all.items ++ loaded_from l.root (map (λ g. g.now) (drop l.i l.grammars)) ≡ loaded_from 0 (map (λ g. g.now) l.grammars)
