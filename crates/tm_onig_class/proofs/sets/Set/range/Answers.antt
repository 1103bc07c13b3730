use Rattle.std.proofs.Common.{ap, ◌∙◌, arith}
use Rattle.tm_onig_class.specs.Ranks.{rank_of}
use Rattle.tm_onig_class.specs.Members.{has_char}
use Rattle.tm_onig_class.proofs.Members.{has_char-ranks, rank_bound, scalar_is, one_range, AreRanks-of, ranks_one}
use Rattle.tm_onig_class.proofs.sets.Set.range.Goals as goal

pub returns : goal.returns
returns c = λ x is. let bound = rank_bound x is in
    let made = rw (c.rank.ensures, c.rank-2.ensures) at (c.in_ok-class.ensures (rank_of x) (omega arith)) in
    ap (λ rs. has_char rs x) c.in_ok-set.ensures ∙ has_char-ranks c.in_ok-class.class.ranges.items x is ∙ made
    ∙ one_range c.args.first c.args.last x (scalar_is c.args.first c.ranges.first.0) (scalar_is c.args.last c.ranges.last.0) is

pub of_class-requires : goal.of_class-requires
of_class-requires c =
    let made = rw (c.rank.ensures, c.rank-2.ensures) at c.in_ok-class.ensures in
    AreRanks-of _ _ c.in_ok-class.class.canonical made (ranks_one c.args.first c.args.last (scalar_is c.args.last c.ranges.last.0))
