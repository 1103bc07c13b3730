use Rattle.std.proofs.Common.{◌≡◌, [], drop}
use Rattle.tm_theme_file.specs.Written.{alternatives_from}
use Rattle.tm_theme_file.proofs.written.add_alternatives.Given as goal

abbrev pub invariant-loop-byte : goal.invariant-loop-byte
invariant-loop-byte l = alternatives_from l.word.items l.words.items l.done.items (drop l.byte-index l.text) ≡ alternatives_from [] [] l.initial.done.items l.text
