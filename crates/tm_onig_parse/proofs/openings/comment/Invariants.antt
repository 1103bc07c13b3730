use Rattle.std.proofs.Common.{◌≡◌, length}
use Rattle.tm_onig_parse.specs.inner.Reading.{comment_at}
use Rattle.tm_onig_parse.proofs.openings.comment.Given as goal

abbrev pub invariant-loop-rest : goal.invariant-loop-rest
invariant-loop-rest l = comment_at l.rest ≡ comment_at l.text

abbrev pub decreases-loop-rest : goal.decreases-loop-rest
decreases-loop-rest l = length l.rest
