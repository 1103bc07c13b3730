-- White space begins nothing of its own.
use Rattle.std.proofs.Common.{◌≡◌, ℕ, true, false, refl}
use Rattle.std.specs.Prelude.{◌==◌}
use Rattle.std.proofs.lemmas.Bool.{ne_eqb}
use Rattle.regex_class.specs.Ranges.{in_ranges, in_range}
use Rattle.tm_onig_class.specs.Listed.{in_listed, in_one}
use Rattle.ucd_category.specs.GeneralCategory.{general_category}
use Rattle.ucd_category.specs.GeneralCategoryRows.{general_category_rows}
use Rattle.ucd_sets.specs.Sets.{in_set}
use Rattle.ucd_table.specs.Rows.{value_in}
use Rattle.tm_onig_parse.specs.Things.{is_blank}

-- what is white space is none that is not
pub blank_differs : (c d : ℕ) → is_blank c ≡ true → is_blank d ≡ false → (c == d) ≡ false
blank_differs c d is isnt = ne_eqb c d (λ e. cc)

-- The signs of patterns are not white space.
pub record AreNoBlanks : Type 0 where
  pub is_40 : is_blank 40 ≡ false
  pub is_41 : is_blank 41 ≡ false
  pub is_124 : is_blank 124 ≡ false
  pub is_92 : is_blank 92 ≡ false
  pub is_91 : is_blank 91 ≡ false
  pub is_63 : is_blank 63 ≡ false
  pub is_42 : is_blank 42 ≡ false
  pub is_43 : is_blank 43 ≡ false
  pub is_35 : is_blank 35 ≡ false
  pub is_123 : is_blank 123 ≡ false

pub no_blanks : AreNoBlanks
unfolding in_listed in_one in_set in_ranges in_range general_category value_in general_category_rows
no_blanks = record { is_40 = refl; is_41 = refl; is_124 = refl; is_92 = refl; is_91 = refl; is_63 = refl; is_42 = refl; is_43 = refl; is_35 = refl; is_123 = refl }
