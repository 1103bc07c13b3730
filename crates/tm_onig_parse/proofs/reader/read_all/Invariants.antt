use Rattle.std.proofs.Common.{◌≡◌, length}
use Rattle.tm_onig_parse.specs.inner.Reading.{start, onward}
use Rattle.tm_onig_parse.specs.inner.Views.{names_known, state_of_reader}
use Rattle.tm_onig_parse.proofs.reader.read_all.Given as goal

abbrev pub invariant-loop-rest : goal.invariant-loop-rest
invariant-loop-rest l = onward (names_known l.groups) (state_of_reader l.reader) l.rest ≡ onward (names_known l.groups) start l.text

abbrev pub decreases-loop-rest : goal.decreases-loop-rest
decreases-loop-rest l = length l.rest
