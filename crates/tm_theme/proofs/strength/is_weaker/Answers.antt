use Rattle.std.proofs.Common.{arith}
use Rattle.tm_theme.proofs.Orders.{weaker-end}
use Rattle.tm_theme.proofs.strength.is_weaker.Goals as goal
use Rattle.tm_theme.proofs.strength.is_weaker.Goals.{then-loop-place-test+else-place-others, else-loop-place-test}

pub returns : goal.returns
returns c =
    weaker-end c.args.words.now c.args.others.now c.loop-place.place c.loop-place.invariant.within c.loop-place.invariant.within_others
    (λ a b. elim c.loop-place-test.branch [ then-loop-place-test+else-place-others w ↦ omega arith | else-loop-place-test w ↦ omega arith ])
    c.loop-place.invariant.same
