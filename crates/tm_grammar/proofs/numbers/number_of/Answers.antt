use Rattle.std.proofs.Common.{◌∙◌}
use Rattle.tm_grammar.proofs.Large.{number_from-at}
use Rattle.tm_grammar.proofs.numbers.number_of.Goals as goal

pub returns-then-number-ge-LIMIT : goal.returns-then-number-ge-LIMIT
returns-then-number-ge-LIMIT c = number_from-at c.args.digits.now c.loop-byte.byte-index c.loop-byte.number c.loop-byte-test.true c.if-number-ge-LIMIT.true ∙ c.loop-byte.invariant.1
