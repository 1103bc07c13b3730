use Rattle.std.proofs.Common.{◌≡◌, ◌≤◌, ◌++◌, ◌-◌, drop, length}
use Rattle.tm_selector.specs.Tokens.{tokens_up_to, tokens_of}
use Rattle.tm_selector.proofs.tokens.tokens_of.Given as goal

abbrev pub invariant-loop : goal.invariant-loop
invariant-loop l = record {
  found : l.tokens.items ++ tokens_up_to (l.end - l.counter) (drop l.at l.text) ≡ tokens_of l.text;
  within : l.at ≤ length l.text;
  end : l.end ≡ length l.text;
}
