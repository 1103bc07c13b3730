use Rattle.std.proofs.Common.{refl, sym, inl, inr}
use Rattle.std.proofs.lemmas.Bool.{cases_Bool}
use Rattle.tm_template.specs.Names.{has_name_reference}
use Rattle.tm_template.proofs.Templates.{names_alone}
use Rattle.tm_line.proofs.groups_are_named.Goals as goal

pub returns : goal.returns
returns c template text m = elim (cases_Bool (has_name_reference template)) [
  | inl refers ↦ rw refers refl
  | inr none ↦ rw none (sym (names_alone template text m.groups none))
]
