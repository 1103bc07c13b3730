use Rattle.std.proofs.Common.{◌≡◌, take}
use Rattle.tm_onig_atom.proofs.store.plain_parts.Given as goal

abbrev pub invariant-loop-i : goal.invariant-loop-i
invariant-loop-i l = l.copy.items ≡ take l.i l.parts
