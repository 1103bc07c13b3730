use Rattle.std.proofs.Common.{◌≡◌, ◌++◌, drop}
use Rattle.tm_theme_file.specs.Written.{upper}
use Rattle.tm_theme_file.proofs.written.upper.Given as goal

abbrev pub invariant-loop-byte : goal.invariant-loop-byte
invariant-loop-byte l = l.chars.items ++ upper (drop l.byte-index l.text) ≡ upper l.text
