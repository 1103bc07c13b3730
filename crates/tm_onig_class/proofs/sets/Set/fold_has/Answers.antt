use Rattle.std.proofs.Common.{◌≡◌, ap, sym, subst, ◌∙◌, ◌↔◌, IsTrue, inr, ⊎_elim, refl}
use Rattle.std.specs.Arc.{arc_value}
use Rattle.std.proofs.lemmas.Bool.{both_ways}
use Rattle.regex_class.specs.Ranges.{in_ranges, KeysRise}
use Rattle.ucd_case.specs.CaseFolding.{fold_pairs}
use Rattle.tm_onig_class.specs.Ranks.{rank_of}
use Rattle.tm_onig_class.specs.Members.{has_char, IsChar}
use Rattle.tm_onig_class.specs.Folding.{HasAlike, LeadsTo}
use Rattle.tm_onig_class.proofs.Members.{scalar_is, has_char-ranks}
use Rattle.tm_onig_class.proofs.Alike.{decides, leads_is, KeysRise-fold_pairs}
use Rattle.tm_onig_class.proofs.sets.Set.fold_has.Goals as goal

pub meets_alike-requires : goal.meets_alike-requires
meets_alike-requires c = subst KeysRise (sym c.fold_pairs.ensures.table) KeysRise-fold_pairs

pub returns-else-has : goal.returns-else-has
returns-else-has c =
    let x = c.args.c in
    let is : IsChar x = scalar_is x c.ranges.c.0 in
    let rs = (arc_value c.self.inside.class).ranges.items in
    let e : c.has.result ≡ in_ranges rs (rank_of x) = c.has.ensures ∙ ap (λ v. has_char v x) (sym c.self.view_is) ∙ has_char-ranks rs x is in
    let both = leads_is rs x is in
    let leads : IsTrue c.meets_alike.result ↔ LeadsTo fold_pairs rs x = subst (λ ps. IsTrue c.meets_alike.result ↔ LeadsTo ps rs x) c.fold_pairs.ensures.table (rw c.deref.ensures at c.meets_alike.ensures) in
    decides _ c.args.self.now x (
    subst (λ v. IsTrue c.meets_alike.result ↔ HasAlike v x) c.self.view_is (
      (λ h. both.0 (inr (leads.0 h))),
      (λ h. ⊎_elim (λ here. absurd (both_ways _ c.if-has.false (e ∙ here))) (λ some. leads.1 some) (both.1 h)),
    ))

pub returns-then-has : goal.returns-then-has
returns-then-has c =
    let x = c.args.c in
    decides _ c.args.self.now x ((λ h. record { member = x; is_char = scalar_is x c.ranges.c.0; is_member = sym c.has.ensures ∙ c.if-has.true; alike = refl }), (λ h. c.if-has.true))
