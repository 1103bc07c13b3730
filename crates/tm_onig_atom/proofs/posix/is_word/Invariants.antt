use Rattle.std.proofs.Common.{◌≡◌, drop, bytes_eq}
use Rattle.tm_onig_atom.proofs.posix.is_word.Given as goal

abbrev pub invariant-chars : goal.invariant-chars
invariant-chars l = bytes_eq (drop l.i l.word) (drop l.i l.name) ≡ bytes_eq l.word l.name
