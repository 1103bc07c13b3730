use Rattle.std.proofs.Common.{◌≡◌, length}
use Rattle.tm_onig_parse.specs.inner.Reading.{outline_start, names_onward}
use Rattle.tm_onig_parse.specs.inner.Views.{outline_of}
use Rattle.tm_onig_parse.proofs.outlines.names_from.Given as goal

abbrev pub invariant-loop-rest : goal.invariant-loop-rest
invariant-loop-rest l = names_onward (outline_of l.outline) l.rest ≡ names_onward outline_start l.text

abbrev pub decreases-loop-rest : goal.decreases-loop-rest
decreases-loop-rest l = length l.rest
