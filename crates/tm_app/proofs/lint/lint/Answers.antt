use Rattle.std.proofs.Common.{arith, ap, ◌++◌, drop, ◌+◌}
use Rattle.tm_outside.proofs.Taken.{takes-trans}
use Rattle.tm_app.specs.Lint.{unread_texts, lint_from}
use Rattle.tm_app.proofs.LintLines.{lint-parts, lint-next}
use Rattle.tm_app.proofs.ShownLines.{show-stops}
use Rattle.tm_app.proofs.lint.lint.Goals as goal

pub returns-in-Err-clause-err : goal.returns-in-Err-clause-err
returns-in-Err-clause-err g c =
    let all = c.args.settings.now in
    let i = c.loop-number.number in
    let inv = c.loop-number.invariant in
    show-stops (g.S.Sink.taken c.args.out.now) (g.S.Sink.taken c.loop-number.out) _ inv.bytes (unread_texts i c.unreadable.result.now) (lint_from (i + 1) (drop (i + 1) all)) _ _ _ _ c.in-Err.fault
    (lint-parts all i c.index-settings-number.result inv.bytes (unread_texts i c.unreadable.result.now) c.loop-number-test.true c.index-settings-number.is (ap (unread_texts i) c.unreadable.ensures) inv.rest)
    inv.takes inv.never_falls c.in-Err.ensures.err

pub loop-number-preserved : goal.loop-number-preserved
loop-number-preserved g c =
    let all = c.args.settings.now in
    let i = c.loop-number.number in
    let inv = c.loop-number.invariant in
    record {
      bytes = inv.bytes ++ unread_texts i c.unreadable.result.now;
      takes = takes-trans _ _ _ inv.bytes (unread_texts i c.unreadable.result.now) inv.takes c.in-Ok.ensures.ok;
      rest = lint-next all i c.index-settings-number.result inv.bytes (unread_texts i c.unreadable.result.now) c.loop-number-test.true c.index-settings-number.is (ap (unread_texts i) c.unreadable.ensures) inv.rest;
      never_falls = omega (arith, inv.never_falls, c.write_unread.ensures.never_falls);
    }
