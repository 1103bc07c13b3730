use Rattle.std.proofs.Common.{refl, arith, false}
use Rattle.tm_onig_vm.proofs.Spanned.{peek_ahead, peek_back, peek_none}
use Rattle.tm_onig_vm.proofs.machine.peek_act.Goals as goal

pub returns-then-ahead : goal.returns-then-ahead
returns-then-ahead c = λ s trail caps same.
    peek_ahead s c.args.line.now c.args.one.now c.args.ahead c.args.negative _ _ _ c.args.next c.args.pos trail caps _ (c.step_for.ensures.does trail c.args.pos caps)
    c.goes_on.ensures c.cost_of.ensures.is c.if-ahead.true same c.stands-found.ensures

pub returns-then-pos-eq0 : goal.returns-then-pos-eq0
returns-then-pos-eq0 c = λ s trail caps same.
    peek_none s c.args.line.now c.args.one.now c.args.ahead c.args.negative _ false _ c.args.next c.args.pos trail caps _ (c.step_for-then-pos-eq0.ensures.does trail c.args.pos caps)
    c.goes_on-then-pos-eq0.ensures refl c.if-ahead.false (omega arith)

pub returns : goal.returns
returns c = λ s trail caps same.
    peek_back s c.args.line.now c.args.one.now c.args.ahead c.args.negative _ _ _ c.args.next c.args.pos trail caps _ (c.step_for-2.ensures.does trail c.args.pos caps)
    c.goes_on-2.ensures c.cost_of-2.ensures.is c.if-ahead.false (omega arith) same c.stands-found-2.ensures
