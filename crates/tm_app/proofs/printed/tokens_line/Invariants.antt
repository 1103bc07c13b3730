use Rattle.std.proofs.Common.{◌≡◌, ◌++◌, drop}
use Rattle.std.specs.Prelude.{string_bytes}
use Rattle.tm_app.specs.Printed.{tokens_text}
use Rattle.tm_app.proofs.printed.tokens_line.Given as goal

abbrev pub invariant-loop-token : goal.invariant-loop-token
invariant-loop-token l = string_bytes l.text ++ tokens_text (drop l.token-index l.tokens) ≡ tokens_text l.tokens
