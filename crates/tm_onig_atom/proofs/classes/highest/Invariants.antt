use Rattle.std.proofs.Common.{◌≡◌, max, drop}
use Rattle.tm_onig_atom.specs.inner.ClassReading.{highest}
use Rattle.tm_onig_atom.proofs.classes.highest.Given as goal

abbrev pub invariant-loop-part : goal.invariant-loop-part
invariant-loop-part l = max l.high (highest (drop l.part-index l.parts)) ≡ highest l.parts
