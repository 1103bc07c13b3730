use Rattle.std.proofs.Common.{◌≡◌, true, sym, ap, ◌∙◌}
use Rattle.regex_class.specs.Ranges.{in_ranges}
use Rattle.regex_class.proofs.RangesLemmas.{in_ranges-push}
use Rattle.tm_onig_class.specs.Ranks.{rank_of}
use Rattle.tm_onig_class.proofs.Alike.{single}
use Rattle.tm_onig_class.proofs.folding.push_other.Goals as goal

pub returns-in_ok-push : goal.returns-in_ok-push
returns-in_ok-push c = λ r.
    let ranks = c.args.class.now.ranges.items in
    let member : in_ranges ranks (rank_of c.args.pair.0) ≡ true = ap (in_ranges ranks) (sym c.rank_of_code.ensures) ∙ sym c.contains.ensures ∙ c.if-contains.true in
    rw (member, c.in_ok-push.ensures.items, in_ranges-push, single, c.rank_of_code-other.ensures)
