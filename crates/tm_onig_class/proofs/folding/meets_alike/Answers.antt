use Rattle.std.proofs.Common.{inl, inr, arith}
use Rattle.std.proofs.lemmas.Bool.{cases_lt}
use Rattle.tm_onig_class.proofs.Alike.{no_lead}
use Rattle.tm_onig_class.proofs.folding.meets_alike.Goals as goal

pub returns-then-pair-code : goal.returns-then-pair-code
returns-then-pair-code c =
    let i = c.loop-i.i in
    let lower = c.first_place-i.ensures in
    let here = lower.2 i c.loop-i.auto.i c.loop-i-test.true in (
      (λ h. cc),
      λ leads. absurd (no_lead _ _ c.args.code (λ k lt at. elim (cases_lt k i) [
        | inl before ↦ c.loop-i.invariant k before at
        | inr after ↦ absurd (c.if-pair-code.true (let rising = c.requires i k after lt in omega arith))
      ]) leads),
    )
