use Rattle.std.proofs.Common.{◌≡◌, ◌+◌, drop}
use Rattle.tm_rules.specs.Rules.{grammars_size}
use Rattle.tm_rules.proofs.load.behind_grammars.Given as goal

abbrev pub invariant-loop-i : goal.invariant-loop-i
invariant-loop-i l = l.behind + grammars_size (drop l.i l.grammars) ≡ l.from + grammars_size l.grammars
