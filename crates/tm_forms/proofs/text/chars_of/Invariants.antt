use Rattle.std.proofs.Common.{◌≡◌, ◌++◌, drop}
use Rattle.tm_forms.proofs.text.chars_of.Given as goal

abbrev pub invariant-loop-byte : goal.invariant-loop-byte
invariant-loop-byte l = l.chars.items ++ drop l.byte-index l.bytes ≡ l.bytes
