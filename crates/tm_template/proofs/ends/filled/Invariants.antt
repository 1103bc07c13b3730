use Rattle.std.proofs.Common.{◌≡◌, ◌++◌, ◌-◌, ◌≤◌, length, drop}
use Rattle.tm_template.specs.Ends.{resolved}
use Rattle.tm_template.proofs.ends.filled.Given as goal

-- what is given so far and what is left give the whole
abbrev pub invariant-pieces : goal.invariant-pieces
invariant-pieces l = record {
  within : l.at ≤ length l.text;
  whole : l.out.items ++ resolved (drop l.at l.text) l.line l.groups ≡ resolved l.text l.line l.groups;
}

abbrev pub decreases-pieces : goal.decreases-pieces
decreases-pieces l = length l.text - l.at
