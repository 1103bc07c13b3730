use Rattle.std.proofs.Common.{ap, sym, ◌∙◌}
use Rattle.std.specs.Arc.{arc_value}
use Rattle.tm_onig_class.specs.Ranks.{chars_of}
use Rattle.tm_onig_class.specs.Members.{has_char}
use Rattle.tm_onig_class.proofs.Rising.{same_ranks}
use Rattle.tm_onig_class.proofs.sets.Set.same_members.Goals as goal

pub returns : goal.returns
returns c = λ same.
    let xs = (arc_value c.self.inside.class).ranges.items in
    let ys = (arc_value c.other.inside.class).ranges.items in
    sym c.self.view_is
    ∙ ap chars_of (same_ranks xs ys (arc_value c.self.inside.class).canonical (arc_value c.other.inside.class).canonical c.self.invariant.bounded c.other.invariant.bounded
    (λ x is. ap (λ v. has_char v x) c.self.view_is ∙ same x is ∙ ap (λ v. has_char v x) (sym c.other.view_is)))
    ∙ c.other.view_is
