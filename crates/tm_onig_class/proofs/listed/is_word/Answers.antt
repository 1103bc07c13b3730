use Rattle.std.proofs.Common.{◌≡◌, Bool, true, false, ◌||◌, refl, ap, ◌∙◌}
use Rattle.regex_class.specs.Ranges.{in_ranges}
use Rattle.ucd_category.specs.GeneralCategory.{general_category_eq}
use Rattle.ucd_category.specs.GeneralCategoryGroup.{in_group}
use Rattle.ucd_category.specs.declared.GeneralCategory.TheVariants.{DecimalNumber, ConnectorPunctuation}
use Rattle.ucd_category.specs.declared.GeneralCategoryGroup.TheVariants.{Letter, Mark}
use Rattle.ucd_sets.specs.Sets.{in_set}
use Rattle.tm_onig_class.specs.Listed.{in_one, in_listed}
use Rattle.tm_onig_class.proofs.listed.is_word.Goals as goal

shape : (a b c d p q r s : Bool) → a ≡ p → b ≡ q → c ≡ r → d ≡ s → (((a || b) || c) || d) ≡ ((p || (q || (r || (s || false)))) || false)
shape a b c d p q r s x y z w = rw (x, y, z, w) (turned p q r s)
  where
    turned : (p q r s : Bool) → (((p || q) || r) || s) ≡ ((p || (q || (r || (s || false)))) || false)
    turned true q r s = refl
    turned false true r s = refl
    turned false false true s = refl
    turned false false false true = refl
    turned false false false false = refl

pub returns : goal.returns
unfolding in_listed in_one in_set in_ranges
returns c =
    let e = c.for_char-category.ensures in
    shape _ _ _ _ _ _ _ _ (c.contains.ensures ∙ ap (in_group Letter) e) (c.contains-2.ensures ∙ ap (in_group Mark) e)
    (c.has_kind.ensures ∙ ap (λ g. general_category_eq g DecimalNumber) e) (c.has_kind-2.ensures ∙ ap (λ g. general_category_eq g ConnectorPunctuation) e)
