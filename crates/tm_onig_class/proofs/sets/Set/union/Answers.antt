use Rattle.std.proofs.Common.{ap, ap₂, sym, ◌∙◌, ◌||◌, arith}
use Rattle.std.specs.Arc.{arc_value}
use Rattle.tm_onig_class.specs.Ranks.{rank_of}
use Rattle.tm_onig_class.specs.Members.{has_char}
use Rattle.tm_onig_class.proofs.Members.{has_char-ranks, rank_bound, AreRanks-of, ranks_or}
use Rattle.tm_onig_class.proofs.sets.Set.union.Goals as goal

pub returns : goal.returns
returns c = λ x is. let bound = rank_bound x is in
    ap (λ rs. has_char rs x) c.in_ok-set.ensures ∙ has_char-ranks c.in_ok-class.class.ranges.items x is
    ∙ (rw (c.deref.ensures, c.deref-2.ensures) at (c.in_ok-class.ensures (rank_of x) (omega arith)))
    ∙ ap₂ ◌||◌ (sym (has_char-ranks (arc_value c.self.inside.class).ranges.items x is) ∙ ap (λ rs. has_char rs x) c.self.view_is)
    (sym (has_char-ranks (arc_value c.other.inside.class).ranges.items x is) ∙ ap (λ rs. has_char rs x) c.other.view_is)

pub of_class-requires : goal.of_class-requires
of_class-requires c = AreRanks-of _ _ c.in_ok-class.class.canonical (rw (c.deref.ensures, c.deref-2.ensures) at c.in_ok-class.ensures) (ranks_or _ _ c.self.invariant.bounded c.other.invariant.bounded)
