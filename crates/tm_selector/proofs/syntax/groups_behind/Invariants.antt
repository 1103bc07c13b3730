use Rattle.std.proofs.Common.{◌≡◌, ◌≤◌, drop}
use Rattle.tm_selector.specs.Syntax.{groups_behind}
use Rattle.tm_selector.proofs.syntax.groups_behind.Given as goal

abbrev pub invariant-loop-token : goal.invariant-loop-token
invariant-loop-token l = record {
  counted : groups_behind l.groups (drop l.token-index l.tokens) ≡ groups_behind 0 l.tokens;
  within : l.groups ≤ l.token-index;
}
