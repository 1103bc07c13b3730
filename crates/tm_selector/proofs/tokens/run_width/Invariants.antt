use Rattle.std.proofs.Common.{◌≡◌, ◌+◌, drop}
use Rattle.tm_selector.specs.Tokens.{run_width}
use Rattle.tm_selector.proofs.tokens.run_width.Given as goal

abbrev pub invariant-loop-place : goal.invariant-loop-place
invariant-loop-place l = l.place + run_width (drop l.place l.text) ≡ run_width l.text
