use Rattle.std.proofs.Common.{refl}
use Rattle.std.specs.Fmt.{digits}
use Rattle.std.specs.Str.{chars}
use Rattle.serde_json.proofs.OnLiterals.{serde_json_on_literals}
use Rattle.tm_grammar.proofs.laws.worked_answers.Goals as goal

pub returns : goal.returns
unfolding serde_json_on_literals chars digits
returns c = record {
  no_value = refl;
  whole_value = refl;
  absent_scope = refl;
  number_for_list = refl;
  inside_before_scope = refl;
  escaped_tilde = refl;
  order_of_bytes = refl;
  earlier_key = refl;
  last_of_equal_keys = refl;
  numbers_alone = refl;
  places_from_zero = refl;
  zero_is_false = refl;
  injections = refl;
}
