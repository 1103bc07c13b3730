use Rattle.std.proofs.Common.{◌≡◌, ℕ, ◌||◌, ap, ap₂, sym, subst, ◌∙◌, ◌↔◌, IsTrue, List}
use Rattle.std.specs.Arc.{arc_value}
use Rattle.regex_class.specs.Ranges.{Range, in_ranges, HasExactly}
use Rattle.ucd_case.specs.CaseFolding.{fold_pairs}
use Rattle.tm_onig_class.specs.Ranks.{rank_of}
use Rattle.tm_onig_class.specs.Members.{has_char}
use Rattle.tm_onig_class.specs.Folding.{HasAlike, any_alike}
use Rattle.tm_onig_class.proofs.Members.{has_char-ranks, rank_small, AreRanks-of}
use Rattle.tm_onig_class.proofs.Alike.{decides, alike_is, ranks_alike}
use Rattle.tm_onig_class.proofs.sets.Set.folded.Goals as goal

-- what the new class has
made : (rs copy ranges out : List Range) (pairs : List (ℕ × ℕ)) → HasExactly out (in_ranges ranges) →
    ((r : ℕ) → in_ranges ranges r ≡ (in_ranges copy r || any_alike pairs rs r)) → copy ≡ rs → pairs ≡ fold_pairs →
    HasExactly out (λ r. in_ranges rs r || any_alike fold_pairs rs r)
made rs copy ranges out pairs h e same table = λ r le. h r le ∙ e r ∙ ap₂ (λ l ps. in_ranges l r || any_alike ps rs r) same table

pub returns : goal.returns
returns c = λ x is.
    let rs = (arc_value c.self.inside.class).ranges.items in
    let has = made rs _ _ c.in_ok-class.class.ranges.items _ c.in_ok-class.ensures (rw c.deref-old.ensures at c.in_ok-add_alike.ensures) (rw c.deref-old.ensures at (c.in_ok-ranges.ensures.items ∙ c.deref.ensures.value)) c.fold_pairs.ensures.table in
    let e = ap (λ rs. has_char rs x) c.in_ok-set.ensures ∙ has_char-ranks c.in_ok-class.class.ranges.items x is ∙ has (rank_of x) (rank_small x is) in
    let both = alike_is rs x is in
    decides _ c.args.self.now x (
    subst (λ v. IsTrue (has_char c.in_ok-set.set x) ↔ HasAlike v x) c.self.view_is
    ((λ h. both.0 (sym e ∙ h)), (λ h. e ∙ both.1 h)))

pub of_class-requires : goal.of_class-requires
of_class-requires c = AreRanks-of _ _ c.in_ok-class.class.canonical
    (made _ _ _ c.in_ok-class.class.ranges.items _ c.in_ok-class.ensures (rw c.deref-old.ensures at c.in_ok-add_alike.ensures) (rw c.deref-old.ensures at (c.in_ok-ranges.ensures.items ∙ c.deref.ensures.value)) c.fold_pairs.ensures.table)
    (ranks_alike _ c.self.invariant.bounded)
