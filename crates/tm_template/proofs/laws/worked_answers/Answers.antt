use Rattle.std.proofs.Common.{refl}
use Rattle.tm_template.specs.References.{manner_at, dollar_at, name_reference, end_reference, pieces_behind}
use Rattle.tm_template.specs.Ends.{is_sign}
use Rattle.tm_template.proofs.laws.worked_answers.Goals as goal

pub returns : goal.returns
unfolding manner_at dollar_at name_reference end_reference pieces_behind is_sign
returns c = record {
  leading_dot = refl;
  beyond_stays = refl;
  longest_run = refl;
  unset_is_empty = refl;
  upper_case = refl;
  other_case_stays = refl;
  braces_stay = refl;
  two_names = refl;
  huge_stays = refl;
  escaped_dot = refl;
  second_backslash = refl;
  beyond_is_empty = refl;
}
