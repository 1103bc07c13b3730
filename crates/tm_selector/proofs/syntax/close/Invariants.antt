use Rattle.std.proofs.Common.{◌≡◌, ◌++◌, replicate}
use Rattle.tm_selector.specs.declared.tokens.Token.TheVariants.{Mark}
use Rattle.tm_selector.specs.declared.tokens.Sign.TheVariants.{Close}
use Rattle.tm_selector.proofs.syntax.close.Given as goal

abbrev pub invariant-loop : goal.invariant-loop
invariant-loop l = l.tokens.items ≡ l.initial.tokens.items ++ replicate l.counter (Mark Close)
