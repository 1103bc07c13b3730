use Rattle.std.proofs.Common.{◌||◌, sym, ap, ◌∙◌}
use Rattle.regex_class.specs.Ranges.{in_ranges}
use Rattle.regex_class.proofs.RangesLemmas.{or_assoc, or-false}
use Rattle.tm_onig_class.proofs.Alike.{any_alike-nil, any_alike-more}
use Rattle.tm_onig_class.proofs.folding.add_alike.Goals as goal

pub loop-i-init : goal.loop-i-init
loop-i-init c = λ r. sym (ap (λ b. in_ranges c.args.out.now.items r || b) (any_alike-nil _ r) ∙ or-false _)

pub loop-i-preserved : goal.loop-i-preserved
loop-i-preserved c = λ r.
    rw (any_alike-more c.args.pairs.now c.args.class.now.ranges.items c.loop-i.i r c.loop-i-test.true, or_assoc, ← c.loop-i.invariant r) (c.in_ok-push_other.ensures r)
