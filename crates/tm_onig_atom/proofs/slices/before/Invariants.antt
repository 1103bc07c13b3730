use Rattle.std.proofs.Common.{◌≡◌, take, drop}
use Rattle.tm_onig_atom.specs.inner.Reading.{before}
use Rattle.tm_onig_atom.proofs.Texts.{in_front}
use Rattle.tm_onig_atom.proofs.slices.before.Given as goal

abbrev pub invariant-chars : goal.invariant-chars
invariant-chars l = before l.end l.text ≡ in_front (take l.i l.text) (before l.end (drop l.i l.text))
