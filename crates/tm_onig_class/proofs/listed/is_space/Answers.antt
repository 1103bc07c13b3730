use Rattle.std.proofs.Common.{◌≡◌, Bool, true, false, ◌||◌, ◌&&◌, nat_le, refl, ap, ◌∙◌}
use Rattle.regex_class.specs.Ranges.{in_ranges, in_range}
use Rattle.ucd_category.specs.GeneralCategory.{general_category_eq}
use Rattle.ucd_category.specs.declared.GeneralCategory.TheVariants.{SpaceSeparator, LineSeparator, ParagraphSeparator}
use Rattle.ucd_sets.specs.Sets.{in_set}
use Rattle.tm_onig_class.specs.Listed.{in_one, in_listed}
use Rattle.tm_onig_class.proofs.Codes.{one_code}
use Rattle.tm_onig_class.proofs.listed.is_space.Goals as goal

shape : (a b c d e p q r s t : Bool) → a ≡ p → b ≡ q → c ≡ r → d ≡ s → e ≡ t → ((((a || b) || c) || d) || e) ≡ ((p || (q || (r || false))) || (s || (t || false)))
shape a b c d e p q r s t x y z w v = rw (x, y, z, w, v) (turned p q r s t)
  where
    turned : (p q r s t : Bool) → ((((p || q) || r) || s) || t) ≡ ((p || (q || (r || false))) || (s || (t || false)))
    turned true q r s t = refl
    turned false true r s t = refl
    turned false false true s t = refl
    turned false false false true t = refl
    turned false false false false true = refl
    turned false false false false false = refl

pub returns : goal.returns
unfolding in_listed in_one in_set in_ranges in_range
returns c =
    let e = c.for_char-category.ensures in
    let tab : (nat_le 9 c.args.c && nat_le c.args.c 13) ≡ (nat_le 9 c.args.c && nat_le c.args.c 13) = refl in
    shape _ _ _ _ _ _ _ _ _ _ (c.has_kind.ensures ∙ ap (λ g. general_category_eq g SpaceSeparator) e) (c.has_kind-2.ensures ∙ ap (λ g. general_category_eq g LineSeparator) e)
    (c.has_kind-3.ensures ∙ ap (λ g. general_category_eq g ParagraphSeparator) e) tab (one_code c.args.c)
