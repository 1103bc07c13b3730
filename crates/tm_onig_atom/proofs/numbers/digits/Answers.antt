use Rattle.std.proofs.Common.{◌<◌, subst, sym, arith}
use Rattle.tm_onig_atom.proofs.Digits.{fits, one_digit}
use Rattle.tm_onig_atom.proofs.numbers.digits.Goals as goal

pub overflow_mul-value : goal.overflow_mul-value
overflow_mul-value c =
    let less = fits c.loop-rest.value c.loop-rest.count c.loop-rest.invariant.1 (omega (arith, c.if-count-most.false, c.requires.few)) in
    let one = one_digit c.loop-rest.value c.args.base c.in-Some.digit c.requires.greatest (subst (λ d. d < c.args.base) (sym c.in-Some.ensures.value.1) c.in-Some.ensures.value.0) in
    omega (arith, less, one)

pub overflow_add-value : goal.overflow_add-value
overflow_add-value c =
    let less = fits c.loop-rest.value c.loop-rest.count c.loop-rest.invariant.1 (omega (arith, c.if-count-most.false, c.requires.few)) in
    let one = one_digit c.loop-rest.value c.args.base c.in-Some.digit c.requires.greatest (subst (λ d. d < c.args.base) (sym c.in-Some.ensures.value.1) c.in-Some.ensures.value.0) in
    omega (arith, less, one)
