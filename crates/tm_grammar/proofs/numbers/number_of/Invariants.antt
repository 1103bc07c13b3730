use Rattle.std.proofs.Common.{◌≡◌, ◌<◌, drop}
use Rattle.tm_grammar.specs.Numbers.{number_from}
use Rattle.tm_grammar.proofs.numbers.number_of.Given as goal

abbrev pub invariant-loop-byte : goal.invariant-loop-byte
invariant-loop-byte l = (l.number < 65536) × (number_from l.number (drop l.byte-index l.digits) ≡ number_from 0 l.digits)
