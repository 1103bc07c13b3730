use Rattle.std.proofs.Common.{◌||◌, take, get_or, sym, ap, ap₂, ◌∙◌}
use Rattle.regex_class.specs.Ranges.{in_ranges}
use Rattle.regex_class.proofs.RangesLemmas.{in_ranges-append}
use Rattle.ucd_sets.specs.Sets.{in_set}
use Rattle.ucd_sets.specs.declared.set.Set.TheVariants.{Any}
use Rattle.tm_onig_class.specs.Listed.{in_one}
use Rattle.tm_onig_class.proofs.Codes.{same_ranges, in_one-nil, in_one-more, or_middle}
use Rattle.tm_onig_class.proofs.listed.collect.Goals as goal

pub loop-i-init : goal.loop-i-init
loop-i-init c = λ x le. ap (λ l. in_ranges l x) c.in_ok-out.ensures.items ∙ ap (λ b. b || in_ranges c.args.ranges.now x) (sym (in_one-nil x))

pub loop-i-preserved : goal.loop-i-preserved
loop-i-preserved c = λ x le.
    let part = c.in_ok-part.part.items in
    ap (λ l. in_ranges l x) c.in_ok-extend_from_slice.ensures.items ∙ in_ranges-append c.loop-i.out.items _ x
    ∙ ap₂ ◌||◌ (c.loop-i.invariant x le) (ap (λ l. in_ranges l x) c.deref.ensures.value ∙ same_ranges part x ∙ c.in_ok-part.ensures.members x le)
    ∙ or_middle (in_one (take c.loop-i.i c.args.sets.now) x) (in_ranges c.args.ranges.now x) (in_set (get_or c.args.sets.now c.loop-i.i Any) x)
    ∙ ap (λ b. b || in_ranges c.args.ranges.now x) (sym (in_one-more c.args.sets.now c.loop-i.i x Any c.loop-i-test.true))
