use Rattle.std.proofs.Common.{◌≡◌, ◌+◌, drop}
use Rattle.tm_selector.specs.Tokens.{spaces}
use Rattle.tm_selector.proofs.tokens.spaces.Given as goal

abbrev pub invariant-loop-place : goal.invariant-loop-place
invariant-loop-place l = l.place + spaces (drop l.place l.text) ≡ spaces l.text
