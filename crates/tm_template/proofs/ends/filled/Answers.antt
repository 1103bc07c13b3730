use Rattle.std.proofs.Common.{◌≡◌, ◌++◌, length, ◌∙◌, subst, arith}
use Rattle.tm_template.specs.Ends.{piece_end}
use Rattle.tm_template.specs.References.{end_form, end_reference, piece_or, piece_text}
use Rattle.tm_template.proofs.Forms.{end_is_form}
use Rattle.tm_template.proofs.Loops.{within_text, given_more, given_end, tail_slice}
use Rattle.tm_template.proofs.ends.filled.Goals as goal

pub overflow_add-at : goal.overflow_add-at
overflow_add-at c =
    let within = within_text end_form end_is_form (piece_end c.args.line.now c.args.groups.now) c.args.text.now c.pieces.at c.index-text-at.result c.pieces-test.true c.index-text-at.is in
    let width = subst (λ u. c.in_ok-at.field-0 ≡ length (piece_text end_form (piece_or c.index-text-at.result (end_reference u)))) (tail_slice c.args.text.now c.pieces.at) c.in_ok-at.ensures.width in
    omega (arith, within, width)

pub pieces-preserved : goal.pieces-preserved
pieces-preserved c =
    let give = piece_end c.args.line.now c.args.groups.now in
    let within = within_text end_form end_is_form give c.args.text.now c.pieces.at c.index-text-at.result c.pieces-test.true c.index-text-at.is in
    let width = subst (λ u. c.in_ok-at.field-0 ≡ length (piece_text end_form (piece_or c.index-text-at.result (end_reference u)))) (tail_slice c.args.text.now c.pieces.at) c.in_ok-at.ensures.width in
    let given = subst (λ u. c.put_piece.new.out.items ≡ c.pieces.out.items ++ give (piece_or c.index-text-at.result (end_reference u))) (tail_slice c.args.text.now c.pieces.at) c.in_ok-at.ensures.given in
    record {
      within = omega (arith, within, width);
      whole = given_more end_form end_is_form give c.args.text.now c.pieces.out.items c.put_piece.new.out.items c.pieces.at c.index-text-at.result c.in_ok-at.field-0
          c.pieces-test.true c.index-text-at.is width given ∙ c.pieces.invariant.whole;
    }

pub returns : goal.returns
returns c =
    let give = piece_end c.args.line.now c.args.groups.now in
    given_end end_form give c.args.text.now c.pieces.out.items c.pieces.at c.pieces-test.false ∙ c.pieces.invariant.whole
