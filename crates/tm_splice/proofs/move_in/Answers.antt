use Rattle.std.proofs.Common.{◌-◌, arith}
use Rattle.tm_splice.proofs.Turns.{replaced-range}
use Rattle.tm_splice.proofs.move_in.Goals as goal

pub returns : goal.returns
returns g c = replaced-range c.args.items.now.items c.args.added.now.items c.args.first c.args.old (c.len.result - c.args.first - c.args.old) _ _ _ _ (omega arith) c.turn.ensures.items c.truncate.ensures.items c.append_in_room.ensures.items c.turn-2.ensures.items
