use Rattle.std.proofs.Common.{◌≤◌, get_or, length, arith}
use Rattle.std.proofs.lemmas.Bool.Decides.{nat_tests}
use Rattle.tm_onig_scan.proofs.Rows.{before_all}
use Rattle.tm_onig_scan.proofs.passes.count_before.Goals as goal

pub returns-then-row-count-clause-before : goal.returns-then-row-count-clause-before
returns-then-row-count-clause-before c =
    let low = c.loop-count-test.true in
    let not_less = c.if-row-count.true in
    let past : c.args.place ≤ get_or c.args.row.now c.loop-count.count 0 = grind (arith, nat_tests) in
    (before_all c.args.place c.loop-count.count c.args.row.now (omega arith) c.loop-count.invariant (λ inside. past)).0

pub returns-then-row-count-clause-behind : goal.returns-then-row-count-clause-behind
returns-then-row-count-clause-behind c =
    let low = c.loop-count-test.true in
    let not_less = c.if-row-count.true in
    let past : c.args.place ≤ get_or c.args.row.now c.loop-count.count 0 = grind (arith, nat_tests) in
    (before_all c.args.place c.loop-count.count c.args.row.now (omega arith) c.loop-count.invariant (λ inside. past)).1

pub returns-clause-before : goal.returns-clause-before
returns-clause-before c =
    let high = c.loop-count-test.false in
    (before_all c.args.place (length c.args.row.now) c.args.row.now (omega arith) (λ i low. c.loop-count.invariant i (omega arith)) (λ inside. absurd (omega arith))).0

pub returns-clause-behind : goal.returns-clause-behind
returns-clause-behind c =
    let high = c.loop-count-test.false in
    (before_all c.args.place (length c.args.row.now) c.args.row.now (omega arith) (λ i low. c.loop-count.invariant i (omega arith)) (λ inside. absurd (omega arith))).1
