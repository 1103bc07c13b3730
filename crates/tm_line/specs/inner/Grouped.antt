-- What a rule says of the groups of each of its patterns.
use Rattle.std.specs.Prelude.{◌≡◌, Option}
use Rattle.tm_defs.specs.declared.rules.Rule.{Rule}
use Rattle.tm_line_turns.specs.declared.found.Whose.TheVariants.{AtBegin, AtEnd, AtMatch, AtWhile}
use Rattle.tm_line.specs.Groups.{groups_of}
use Rattle.tm_line.specs.declared.groups.Groups.{Groups}

pub record AreGroups (rule : Option Rule) (groups : Groups) : Type 0 where
  pub at_begin : groups.at_begin.items ≡ groups_of AtBegin rule
  pub at_end : groups.at_end.items ≡ groups_of AtEnd rule
  pub at_match : groups.at_match.items ≡ groups_of AtMatch rule
  pub at_while : groups.at_while.items ≡ groups_of AtWhile rule
