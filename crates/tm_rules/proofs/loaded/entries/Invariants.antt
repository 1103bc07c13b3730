use Rattle.std.proofs.Common.{◌≡◌, drop}
use Rattle.tm_rules.specs.Includes.{entries, entries_after}
use Rattle.tm_rules.specs.inner.Keyed.{keyed}
use Rattle.tm_rules.specs.Tree.{names_of}
use Rattle.tm_rules.proofs.loaded.entries.Given as goal

abbrev pub invariant-loop-i : goal.invariant-loop-i
invariant-loop-i l = entries_after (keyed l.numbers.entries) l.number (names_of (drop l.i l.names)) ≡ entries l.from (names_of l.names)
