use Rattle.std.proofs.Common.{◌||◌, sym, ap, ap₂, subst, ◌∙◌, take_all}
use Rattle.std.proofs.lemmas.Bool.{both_ways}
use Rattle.regex_class.specs.Ranges.{in_range, in_ranges, range_at}
use Rattle.regex_class.proofs.RangesLemmas.{in_ranges-nil, in_ranges-push, in_ranges-more}
use Rattle.tm_onig_class.specs.Ranks.{rank_of, AreRanks}
use Rattle.tm_onig_class.specs.Members.{has_char}
use Rattle.tm_onig_class.proofs.Members.{has_char-ranks, rank_small, AreRanks-of}
use Rattle.tm_onig_class.proofs.Codes.{in_range-codes, AreRanks-push}
use Rattle.tm_onig_class.proofs.sets.Set.from_codes.Goals as goal

pub loop-i-init : goal.loop-i-init
loop-i-init c = (
  λ x is. ap (λ l. in_ranges l (rank_of x)) c.new-ranks.ensures.items ∙ in_ranges-nil _ ∙ sym (in_ranges-nil x),
  λ r h. absurd (both_ways _ (in_ranges-nil r) (sym (ap (λ l. in_ranges l r) c.new-ranks.ensures.items) ∙ h)),
)

pub loop-i-preserved : goal.loop-i-preserved
loop-i-preserved c =
    let range = range_at c.args.ranges.now c.loop-i.i in (
      λ x is. ap (λ l. in_ranges l (rank_of x)) c.in_ok-push.ensures.items ∙ in_ranges-push _ _ _
          ∙ ap₂ ◌||◌ (c.loop-i.invariant.0 x is) (ap₂ (λ a b. in_range (a, b) (rank_of x)) c.rank_from.ensures c.rank_to.ensures ∙ in_range-codes range x is)
          ∙ sym (in_ranges-more c.args.ranges.now c.loop-i.i x c.loop-i-test.true),
      subst AreRanks (sym c.in_ok-push.ensures.items) (AreRanks-push _ _ range.1 _ c.rank_to.ensures c.loop-i.invariant.1),
    )

pub returns : goal.returns
returns c = λ x is.
    ap (λ rs. has_char rs x) c.in_ok-set.ensures ∙ has_char-ranks c.in_ok-class.class.ranges.items x is ∙ c.in_ok-class.ensures (rank_of x) (rank_small x is) ∙ c.loop-i.invariant.0 x is
    ∙ ap (λ l. in_ranges l x) (take_all _ _ c.loop-i-test.false)

pub of_class-requires : goal.of_class-requires
of_class-requires c = AreRanks-of _ _ c.in_ok-class.class.canonical c.in_ok-class.ensures c.loop-i.invariant.1
