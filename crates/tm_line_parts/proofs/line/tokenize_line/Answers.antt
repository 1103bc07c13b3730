use Rattle.std.proofs.Common.{arith}
use Rattle.tm_defs.specs.Tables.{state_at}
use Rattle.tm_line_parts.specs.Stacks.{place_at}
use Rattle.tm_line_parts.specs.declared.rules.Out.{Out}
use Rattle.tm_line_parts.proofs.Lines.{line-done, run-fails, run-reach, start-fails}
use Rattle.tm_line_parts.proofs.line.tokenize_line.Goals as goal

pub returns-in-Err : goal.returns-in-Err
returns-in-Err g c line whole =
    let l = g.R.LineRules.language c.args.job.now.rules.now in
    let t = g.S.States.tables c.args.table.now in
    let u = g.S.States.tables c.started.new.table in
    let out : Out = record { pieces = c.new-pieces.result; budget = c.args.budget } in
    start-fails l c.args.scopes.now (state_at t c.args.start) line c.args.job.now.text.now whole t u out c.started.new.out c.in-Err.fault c.in-Err.ensures.starts

pub returns-in-Err-run : goal.returns-in-Err-run
returns-in-Err-run g c line whole =
    let l = g.R.LineRules.language c.args.job.now.rules.now in
    let t = g.S.States.tables c.args.table.now in
    let u = g.S.States.tables c.started.new.table in
    let out : Out = record { pieces = c.new-pieces.result; budget = c.args.budget } in
    run-fails l c.args.scopes.now (state_at t c.args.start) line c.args.job.now.text.now whole t u out c.started.new.out c.in-Ok.way c.in-Ok.ensures.starts (g.S.States.tables c.run.new.table) c.run.new.out c.run.new.way c.in-Err-run.fault c.in-Err-run.ensures.ran

pub finished-requires-clause-reach : goal.finished-requires-clause-reach
finished-requires-clause-reach g c =
    let l = g.R.LineRules.language c.args.job.now.rules.now in
    let u = g.S.States.tables c.started.new.table in
    run-reach l c.args.job.now.text.now (place_at u c.in-Ok.way) c.run.new.out.pieces.items c.started.new.out.pieces.items _ (g.met.R.LineRules.finds c.args.job.now.rules.now) c.in_default.ensures.ran.adds.pieces (omega arith)

pub returns : goal.returns
returns g c line whole =
    let l = g.R.LineRules.language c.args.job.now.rules.now in
    let t = g.S.States.tables c.args.table.now in
    let u = g.S.States.tables c.started.new.table in
    let out : Out = record { pieces = c.new-pieces.result; budget = c.args.budget } in
    line-done l c.args.scopes.now (state_at t c.args.start) line c.args.job.now.text.now whole t u out c.started.new.out c.in-Ok.way c.in-Ok.ensures.starts (g.S.States.tables c.run.new.table) c.run.new.out c.run.new.way _ c.new-pieces.ensures.items (g.met.R.LineRules.finds c.args.job.now.rules.now) c.in_default.ensures.ran
    (g.S.States.tables c.finished.new.table) c.finished.result _ (omega arith) c.finished.ensures
