use Rattle.std.proofs.Common.{◌≡◌, ◌≤◌, ◌<◌, ◌^◌, drop, length}
use Rattle.tm_selector.specs.Walk.{walked}
use Rattle.tm_selector.proofs.walk.walked.Given as goal

abbrev pub invariant-loop-place : goal.invariant-loop-place
invariant-loop-place g l = record {
  behind : l.walk ≡ walked (g.S.Scopes.names l.scopes) (drop l.place l.tokens);
  within : l.place ≤ length l.tokens;
  small : length l.tokens < 2 ^ 64;
}

abbrev pub decreases-loop-place : goal.decreases-loop-place
decreases-loop-place g l = l.place
