use Rattle.std.proofs.Common.{arith, ◌∙◌, ◌++◌, drop, ◌+◌}
use Rattle.tm_outside.proofs.Taken.{takes-trans}
use Rattle.tm_app.specs.Lint.{unread_texts}
use Rattle.tm_app.proofs.LintLines.{unread-parts, unread-next}
use Rattle.tm_app.proofs.ShownLines.{show-stops}
use Rattle.tm_app.proofs.lint.write_unread.Goals as goal

pub returns-in-Err-write_line-clause-err : goal.returns-in-Err-write_line-clause-err
returns-in-Err-write_line-clause-err g c =
    let all = c.args.all.now in
    let i = c.loop-unread.unread-index in
    let inv = c.loop-unread.invariant in
    show-stops (g.S.Sink.taken c.args.out.now) (g.S.Sink.taken c.loop-unread.out) _ inv.bytes c.as_str.result.now (unread_texts c.args.number (drop (i + 1) all)) _ _ _ _ c.in-Err-write_line.fault
    (unread-parts c.args.number all i c.unread-item.result inv.bytes c.as_str.result.now c.loop-unread-test.true c.unread-item.is (c.as_str.ensures.value ∙ c.in-Ok.ensures) inv.rest)
    inv.takes inv.never_falls c.in-Err-write_line.ensures.err

pub loop-unread-preserved : goal.loop-unread-preserved
loop-unread-preserved g c =
    let all = c.args.all.now in
    let i = c.loop-unread.unread-index in
    let inv = c.loop-unread.invariant in
    record {
      bytes = inv.bytes ++ c.as_str.result.now;
      takes = takes-trans _ _ _ inv.bytes c.as_str.result.now inv.takes c.in-Ok-write_line.ensures.ok;
      rest = unread-next c.args.number all i c.unread-item.result inv.bytes c.as_str.result.now c.loop-unread-test.true c.unread-item.is (c.as_str.ensures.value ∙ c.in-Ok.ensures) inv.rest;
      never_falls = omega (arith, inv.never_falls, c.write_line.ensures.never_falls);
    }
