use Rattle.std.proofs.Common.{◌∙◌, sym}
use Rattle.tm_paint.proofs.Rooms.{inserted-end}
use Rattle.tm_paint.proofs.painter.push_in_room.Goals as goal

pub returns-clause-items : goal.returns-clause-items
returns-clause-items g c = inserted-end c.insert.result _ _ _ _ (sym c.is_err.ensures.value ∙ c.if-is_err.false) (c.len-end.ensures ∙ c.args.items.now.ok.0) c.insert.ensures.items
