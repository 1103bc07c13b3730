use Rattle.std.proofs.Common.{map, reverse, arith}
use Rattle.tm_defs.specs.Tables.{state_at}
use Rattle.tm_line_turns.specs.LineRun.{earlier}
use Rattle.tm_line_parts.proofs.Bases.{above-some, below-some}
use Rattle.tm_line_parts.proofs.stack.has_below.Goals as goal

pub returns-then-len-gt0 : goal.returns-then-len-gt0
returns-then-len-gt0 g c =
    let t = g.S.States.tables c.args.table.now in
    above-some t c.args.stack.now.below.items (map earlier (reverse (state_at t c.args.stack.now.base))) (omega (arith, c.len.ensures, c.if-len-gt0.true))

pub returns : goal.returns
returns g c = below-some (g.S.States.tables c.args.table.now) c.args.stack.now c.prove_known.ensures c.requires.base (λ more. omega (arith, c.len.ensures, c.if-len-gt0.false, more))
