use Rattle.std.proofs.Common.{◌≡◌, ◌++◌, length, ◌∙◌, subst, arith}
use Rattle.tm_template.specs.Names.{piece_name}
use Rattle.tm_template.specs.References.{name_form, name_reference, piece_or, piece_text}
use Rattle.tm_template.proofs.Forms.{name_is_form}
use Rattle.tm_template.proofs.Loops.{within_text, given_more, given_end, tail_slice}
use Rattle.tm_template.proofs.names.filled.Goals as goal

pub overflow_add-at : goal.overflow_add-at
overflow_add-at c =
    let within = within_text name_form name_is_form (piece_name c.args.line.now c.args.groups.now) c.args.template.now c.pieces.at c.index-template-at.result c.pieces-test.true c.index-template-at.is in
    let width = subst (λ u. c.in_ok-at.field-0 ≡ length (piece_text name_form (piece_or c.index-template-at.result (name_reference u)))) (tail_slice c.args.template.now c.pieces.at) c.in_ok-at.ensures.width in
    omega (arith, within, width)

pub pieces-preserved : goal.pieces-preserved
pieces-preserved c =
    let give = piece_name c.args.line.now c.args.groups.now in
    let within = within_text name_form name_is_form give c.args.template.now c.pieces.at c.index-template-at.result c.pieces-test.true c.index-template-at.is in
    let width = subst (λ u. c.in_ok-at.field-0 ≡ length (piece_text name_form (piece_or c.index-template-at.result (name_reference u)))) (tail_slice c.args.template.now c.pieces.at) c.in_ok-at.ensures.width in
    let given = subst (λ u. c.put_piece.new.out.items ≡ c.pieces.out.items ++ give (piece_or c.index-template-at.result (name_reference u))) (tail_slice c.args.template.now c.pieces.at) c.in_ok-at.ensures.given in
    record {
      within = omega (arith, within, width);
      whole = given_more name_form name_is_form give c.args.template.now c.pieces.out.items c.put_piece.new.out.items c.pieces.at c.index-template-at.result c.in_ok-at.field-0
          c.pieces-test.true c.index-template-at.is width given ∙ c.pieces.invariant.whole;
    }

pub returns : goal.returns
returns c =
    let give = piece_name c.args.line.now c.args.groups.now in
    given_end name_form give c.args.template.now c.pieces.out.items c.pieces.at c.pieces-test.false ∙ c.pieces.invariant.whole
