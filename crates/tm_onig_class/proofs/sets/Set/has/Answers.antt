use Rattle.std.proofs.Common.{ap, sym, ◌∙◌, ◌==◌}
use Rattle.std.specs.Arc.{arc_value}
use Rattle.std.proofs.lemmas.Nat.Bits.{shr_and_one}
use Rattle.regex_class.specs.Ranges.{in_ranges}
use Rattle.tm_onig_class.specs.Members.{has_char, IsChar}
use Rattle.tm_onig_class.proofs.Members.{has_char-ranks, scalar_is, rank_ascii}
use Rattle.tm_onig_class.proofs.sets.Set.has.Goals as goal

pub returns-then-code-lt128 : goal.returns-then-code-lt128
returns-then-code-lt128 c =
    let x = c.args.c in
    let rs = (arc_value c.self.inside.class).ranges.items in
    ap (λ n. n == 1) (shr_and_one c.self.inside.ascii x) ∙ c.self.invariant.ascii x c.if-code-lt128.true
    ∙ ap (in_ranges rs) (sym (rank_ascii x c.if-code-lt128.true)) ∙ sym (has_char-ranks rs x (scalar_is x c.ranges.c.0)) ∙ ap (λ v. has_char v x) c.self.view_is

pub returns-else-code-lt128 : goal.returns-else-code-lt128
returns-else-code-lt128 c =
    let is : IsChar c.args.c = scalar_is c.args.c c.ranges.c.0 in
    (rw c.deref.ensures at c.contains.ensures) ∙ ap (in_ranges (arc_value c.self.inside.class).ranges.items) c.rank.ensures
    ∙ sym (has_char-ranks (arc_value c.self.inside.class).ranges.items c.args.c is) ∙ ap (λ rs. has_char rs c.args.c) c.self.view_is
