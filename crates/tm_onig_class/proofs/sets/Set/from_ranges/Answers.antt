use Rattle.std.proofs.Common.{◌≡◌, ℕ, subst, ◌∙◌, IfOk, take_all}
use Rattle.regex_class.specs.Ranges.{in_ranges}
use Rattle.tm_onig_class.specs.Members.{has_char, IsChar}
use Rattle.tm_onig_class.proofs.sets.Set.from_ranges.Goals as goal

pub returns : goal.returns
returns c =
    subst (λ l. IfOk c.from_codes.result (λ s. (x : ℕ) → IsChar x → has_char s x ≡ in_ranges l x))
    (c.deref.ensures.value ∙ c.loop-i.invariant ∙ take_all _ _ c.loop-i-test.false) c.from_codes.ensures
