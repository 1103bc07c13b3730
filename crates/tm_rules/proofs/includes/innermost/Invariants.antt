use Rattle.std.proofs.Common.{◌≡◌, drop}
use Rattle.std.specs.Option.{option_or}
use Rattle.tm_rules.specs.Includes.{innermost}
use Rattle.tm_rules.proofs.includes.innermost.Given as goal

abbrev pub invariant-loop-i : goal.invariant-loop-i
invariant-loop-i l = option_or (innermost l.name (drop l.i l.scopes)) l.found ≡ innermost l.name l.scopes
