use Rattle.std.proofs.Common.{◌≡◌, ◌++◌, [], drop, flat_map}
use Rattle.tm_rules.specs.Candidates.{flattened}
use Rattle.tm_rules.proofs.only_lists.push_all.Given as goal

abbrev pub invariant-loop-number : goal.invariant-loop-number
invariant-loop-number l = l.list.items ++ flat_map (flattened l.rules []) (drop l.number-index l.numbers) ≡ l.fn.list.items ++ flat_map (flattened l.rules []) l.numbers
