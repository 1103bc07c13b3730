use Rattle.std.proofs.Common.{◌++◌, length, take, sym, ap, ◌∙◌}
use Rattle.std.specs.Str.Parse.{digits_value}
use Rattle.tm_template.specs.Names.{reference_name, piece_name}
use Rattle.tm_template.specs.References.{reference, name_form, name_spelling, piece_or}
use Rattle.tm_template.proofs.Forms.{name_is_form}
use Rattle.tm_template.proofs.Loops.{spelling_front, span_within}
use Rattle.tm_template.proofs.names.put_piece.Goals as goal

pub group_of-group-requires : goal.group_of-group-requires
group_of-group-requires c = (name_is_form.found c.args.text.now (reference c.in-Some.digits.now c.in-Some.manner) (sym c.in-Some.ensures)).stands.digits.all

pub slice_bounds-put_reference-end : goal.slice_bounds-put_reference-end
slice_bounds-put_reference-end c =
    let r = reference c.in-Some.digits.now c.in-Some.manner in
    let front = spelling_front name_form name_is_form c.args.text.now r (sym c.in-Some.ensures) in
    c.name_width-width.ensures ∙ sym (ap length front) ∙ ap (λ n. length (take n c.args.text.now)) (sym c.name_width-width.ensures)

pub put_reference-requires : goal.put_reference-requires
put_reference-requires c = span_within (length c.args.line.now) c.args.groups.now (digits_value 10 c.in-Some.digits.now) c.group_of-group.result c.requires (sym c.group_of-group.ensures)

pub returns-in_ok-put_reference-in-Some-clause-given : goal.returns-in_ok-put_reference-in-Some-clause-given
returns-in_ok-put_reference-in-Some-clause-given c =
    let r = reference c.in-Some.digits.now c.in-Some.manner in
    let front = ap (λ n. take n c.args.text.now) c.name_width-width.ensures ∙ spelling_front name_form name_is_form c.args.text.now r (sym c.in-Some.ensures) in
    c.in_ok-put_reference-in-Some.ensures
    ∙ ap (λ s. c.args.out.now.items ++ reference_name c.args.line.now s c.in-Some.manner c.group_of-group.result) front
    ∙ ap (λ g. c.args.out.now.items ++ reference_name c.args.line.now (name_spelling r) c.in-Some.manner g) c.group_of-group.ensures
    ∙ ap (λ o. c.args.out.now.items ++ piece_name c.args.line.now c.args.groups.now (piece_or c.args.first o)) c.in-Some.ensures
