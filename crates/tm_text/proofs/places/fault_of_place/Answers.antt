use Rattle.std.proofs.Common.{ap, sym, ◌∙◌, map, length}
use Rattle.std.specs.Arc.{arc_value}
use Rattle.tm_machine.specs.Places.{line_fault}
use Rattle.tm_text.proofs.LineReads.{line_there, short_at}
use Rattle.tm_text.proofs.places.fault_of_place.Goals as goal

pub fault_of_column-requires : goal.fault_of_column-requires
fault_of_column-requires c = short_at _ c.args.line c.deref.result.now c.requires.short (line_there c.args.lines.now c.args.line _ c.deref.result.now c.if-line-lines.false c.index-lines-line.is c.deref.ensures)

pub returns : goal.returns
returns c =
    c.fault_of_column.ensures
    ∙ sym (ap (line_fault (length (map arc_value c.args.lines.now)) c.args.line c.args.col) (line_there c.args.lines.now c.args.line _ c.deref.result.now c.if-line-lines.false c.index-lines-line.is c.deref.ensures))
