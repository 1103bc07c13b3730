use Rattle.std.proofs.Common.{ap, sym, ◌∙◌, arith, not}
use Rattle.std.specs.Arc.{arc_value}
use Rattle.tm_onig_class.specs.Ranks.{rank_of}
use Rattle.tm_onig_class.specs.Members.{has_char}
use Rattle.tm_onig_class.proofs.Members.{has_char-ranks, rank_bound, within_all, AreRanks-of, ranks_within}
use Rattle.tm_onig_class.proofs.sets.Set.complement.Goals as goal

pub returns : goal.returns
returns c = λ x is. let bound = rank_bound x is in
    ap (λ rs. has_char rs x) c.in_ok-set.ensures ∙ has_char-ranks c.in_ok-class.class.ranges.items x is
    ∙ (rw c.deref.ensures at (c.in_ok-class.ensures (rank_of x) (omega arith)))
    ∙ within_all x is _
    ∙ ap not (sym (has_char-ranks (arc_value c.self.inside.class).ranges.items x is) ∙ ap (λ rs. has_char rs x) c.self.view_is)

pub of_class-requires : goal.of_class-requires
of_class-requires c = AreRanks-of _ _ c.in_ok-class.class.canonical (rw c.deref.ensures at c.in_ok-class.ensures) (λ r h. ranks_within _ r h)
