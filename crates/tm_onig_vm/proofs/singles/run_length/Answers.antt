use Rattle.std.proofs.Common.{sym, arith}
use Rattle.tm_onig_vm.proofs.Rounds.{run_begins, run_ends, run_goes_on, run_is_all}
use Rattle.tm_onig_vm.specs.inner.Single.{single_has, most_of}
use Rattle.tm_onig_vm.proofs.singles.run_length.Goals as goal

pub loop-i-init : goal.loop-i-init
loop-i-init c = run_begins (single_has c.args.single.now) (most_of c.args.greatest c.args.line.now) c.args.pos c.args.line.now

pub returns-then-not-stands-clause-run : goal.returns-then-not-stands-clause-run
returns-then-not-stands-clause-run c =
    run_ends (single_has c.args.single.now) (most_of c.args.greatest c.args.line.now) c.loop-i.i c.args.pos _ c.args.line.now c.loop-i.invariant (sym c.if-not-stands.ensures)

pub loop-i-preserved : goal.loop-i-preserved
loop-i-preserved c = run_goes_on (single_has c.args.single.now) (most_of c.args.greatest c.args.line.now) c.loop-i.i c.args.pos _ c.args.line.now (omega arith) c.loop-i.invariant (sym c.if-not-stands.ensures)

pub returns-clause-run : goal.returns-clause-run
returns-clause-run c =
    let done = run_is_all (single_has c.args.single.now) (most_of c.args.greatest c.args.line.now) c.loop-i.i c.args.pos _ c.args.line.now c.loop-i.invariant (omega arith) (omega arith) (omega arith) (omega arith) in
    omega arith
