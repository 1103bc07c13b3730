use Rattle.std.proofs.Common.{◌≡◌, vec_len}
use Rattle.tm_selector.specs.Syntax.{trimmed}
use Rattle.tm_selector.proofs.syntax.trim.Given as goal

abbrev pub invariant-loop-last : goal.invariant-loop-last
invariant-loop-last l = trimmed l.tokens.items ≡ trimmed l.initial.tokens.items

abbrev pub decreases-loop-last : goal.decreases-loop-last
decreases-loop-last l = vec_len l.tokens
