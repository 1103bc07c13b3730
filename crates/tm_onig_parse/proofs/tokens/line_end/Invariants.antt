use Rattle.std.proofs.Common.{◌≡◌, length}
use Rattle.tm_onig_parse.specs.inner.Reading.{line_end}
use Rattle.tm_onig_parse.proofs.tokens.line_end.Given as goal

abbrev pub invariant-loop-rest : goal.invariant-loop-rest
invariant-loop-rest l = line_end l.rest ≡ line_end l.text

abbrev pub decreases-loop-rest : goal.decreases-loop-rest
decreases-loop-rest l = length l.rest
