use Rattle.std.proofs.Common.{◌≡◌, ◌+◌, ◌++◌, map, length}
use Rattle.tm_onig_parse.specs.Names.{called_from}
use Rattle.tm_onig_parse.specs.inner.Views.{name_of_chars}
use Rattle.tm_onig_parse.proofs.references.called.Given as goal

abbrev pub invariant-loop-rest : goal.invariant-loop-rest
invariant-loop-rest l = called_from 1 l.name (map name_of_chars l.groups) ≡ l.numbers.items ++ called_from (l.last + 1) l.name (map name_of_chars l.rest)

abbrev pub decreases-loop-rest : goal.decreases-loop-rest
decreases-loop-rest l = length l.rest
