use Rattle.std.proofs.Common.{◌||◌, refl, ap, ◌∙◌}
use Rattle.tm_onig_class.specs.Members.{has_char}
use Rattle.tm_onig_atom.proofs.SidesWalk.{range_more, set_more}
use Rattle.tm_onig_atom.proofs.class_sets.add_member.Goals as goal

pub returns-in_ok-push-in-Range : goal.returns-in_ok-push-in-Range
returns-in_ok-push-in-Range c = rw c.in-Range.is (λ x is. (refl, range_more c.args.fold _ _ _ _ x _ c.in_ok-push-in-Range.ensures.items))

pub returns-in_ok-more-in-Set : goal.returns-in_ok-more-in-Set
returns-in_ok-more-in-Set c = rw c.in-Set.is
    (λ x is. (refl, set_more _ _ _ _ (c.in_ok-more-in-Set.ensures x is ∙ ap (λ b. has_char c.args.gathered.set x || b) (c.in_ok-named-in-Set.ensures x is))))
