use Rattle.tm_defs.specs.Tables.{state_at}
use Rattle.tm_state.specs.Deltas.{applied}
use Rattle.tm_state.specs.Entries.{state_entries}
use Rattle.tm_state.proofs.Led.{pops-within, led-there, led-number}
use Rattle.tm_state.proofs.laws.applied_difference.Goals as goal

pub unreachable-requires : goal.unreachable-requires
unreachable-requires c =
    c.in_default.ensures.absent (pops-within (state_at c.args.table.now c.args.a) (state_at c.args.table.now c.args.b) c.in_ok-delta.delta c.in_ok-delta.ensures)
    (led-there c.args.table.now c.args.a c.args.b c.in_ok-delta.delta c.requires.b c.in_ok-delta.ensures)

pub returns : goal.returns
returns c =
    led-number c.args.table.now c.args.a c.args.b c.in_ok-delta.delta c.requires.b c.in_ok-delta.ensures (state_entries (applied (state_at c.args.table.now c.args.a) c.in_ok-delta.delta)) c.apply.new.self c.in-Ok.id c.apply.ensures.grows c.prove_known.ensures c.in-Ok.ensures.ok
