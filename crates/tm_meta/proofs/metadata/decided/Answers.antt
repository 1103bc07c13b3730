use Rattle.std.proofs.Common.{◌≡◌, ℕ, ◌+◌, ◌-◌, false, not, ◌&&◌, List, ap, sym, ◌∙◌, arith}
use Rattle.std.specs.Prelude.{◌==◌}
use Rattle.std.proofs.lemmas.Bool.Decides.{nat_tests}
use Rattle.tm_meta.specs.Metadata.{in_word}
use Rattle.tm_meta.proofs.Metas.{leftmost-none, leftmost-some}
use Rattle.tm_meta.proofs.metadata.decided.Goals as goal

-- the character before the next place is the one at this
before-next : (scope : List ℕ) (place : ℕ) → in_word scope place ≡ (not (place + 1 == 0) && in_word scope ((place + 1) - 1))
before-next scope place =
    let behind : (place + 1 == 0) ≡ false = grind (arith, nat_tests) in
    let same : (place + 1) - 1 ≡ place = omega arith in
    sym (ap (λ b. not b && in_word scope ((place + 1) - 1)) behind ∙ ap (in_word scope) same)

pub returns-in-Some : goal.returns-in-Some
returns-in-Some c = leftmost-some c.args.scope.now c.loop-place.place c.type_behind.result c.in-Some.found c.loop-place-test.true c.type_behind.ensures c.in-Some.is ∙ c.loop-place.invariant.left

pub loop-place-preserved : goal.loop-place-preserved
loop-place-preserved c = record {
  left = leftmost-none c.args.scope.now c.loop-place.place c.type_behind.result c.loop-place-test.true c.type_behind.ensures c.in_default.is ∙ c.loop-place.invariant.left;
  behind = c.word_at-inside.ensures ∙ before-next c.args.scope.now c.loop-place.place;
}
