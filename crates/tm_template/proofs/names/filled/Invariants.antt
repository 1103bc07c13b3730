use Rattle.std.proofs.Common.{◌≡◌, ◌++◌, ◌-◌, ◌≤◌, length, drop}
use Rattle.tm_template.specs.Names.{filled}
use Rattle.tm_template.proofs.names.filled.Given as goal

-- what is given so far and what is left give the whole
abbrev pub invariant-pieces : goal.invariant-pieces
invariant-pieces l = record {
  within : l.at ≤ length l.template;
  whole : l.out.items ++ filled (drop l.at l.template) l.line l.groups ≡ filled l.template l.line l.groups;
}

abbrev pub decreases-pieces : goal.decreases-pieces
decreases-pieces l = length l.template - l.at
