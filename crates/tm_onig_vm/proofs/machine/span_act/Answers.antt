use Rattle.std.proofs.Common.{Bool, cond, refl, ap, ◌∙◌, arith}
use Rattle.tm_onig_vm.specs.inner.Machine.{exec}
use Rattle.tm_onig_vm.proofs.Spanned.{span_fails, span_goes}
use Rattle.tm_onig_vm.proofs.machine.span_act.Goals as goal

pub returns-then-count-least-clause-does : goal.returns-then-count-least-clause-does
unfolding exec
returns-then-count-least-clause-does c = λ s caps same.
    rw (same, ← c.run_length-count.ensures.run)
    (span_fails c.run_length-count.result c.args.least c.args.greatest c.args.next c.args.pos _ c.cost_of-last.result caps c.args.trail.now (c.cost_of-last.ensures.is ∙ ap (λ (b : Bool). cond b 0 1) c.reaches.ensures) refl c.if-count-least.true)

pub returns-clause-does : goal.returns-clause-does
unfolding exec
returns-clause-does c = λ s caps same.
    let enough = c.if-count-least.false in
    rw (same, ← c.run_length-count.ensures.run)
    (span_goes c.run_length-count.result c.args.least c.args.greatest c.args.next c.args.pos _ c.cost_of-last.result caps c.args.trail.now (c.cost_of-last.ensures.is ∙ ap (λ (b : Bool). cond b 0 1) c.reaches.ensures) refl _ _ (omega arith) refl refl
    (c.in_ok-go_from_each.ensures.ways caps) c.in_ok-go_from_each.ensures.numbers)
