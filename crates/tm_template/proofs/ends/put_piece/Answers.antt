use Rattle.std.proofs.Common.{length, sym}
use Rattle.std.specs.Str.Parse.{digits_value}
use Rattle.tm_template.specs.References.{reference}
use Rattle.tm_template.proofs.Forms.{end_is_form}
use Rattle.tm_template.proofs.Loops.{span_within}
use Rattle.tm_template.proofs.ends.put_piece.Goals as goal

pub group_of-requires : goal.group_of-requires
group_of-requires c = (end_is_form.found c.args.text.now (reference c.in-Some.digits.now c.in-Some.field-0-1) (sym c.in-Some.ensures)).stands.digits.all

pub put_reference-requires : goal.put_reference-requires
put_reference-requires c = span_within (length c.args.line.now) c.args.groups.now (digits_value 10 c.in-Some.digits.now) c.group_of.result c.requires (sym c.group_of.ensures)
