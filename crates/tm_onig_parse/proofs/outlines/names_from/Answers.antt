use Rattle.std.proofs.Common.{◌≡◌, ◌<◌, length, None, arith, sym, ◌∙◌}
use Rattle.std.proofs.lemmas.Bool.Decides.{nat_tests}
use Rattle.tm_onig_parse.specs.inner.Views.{outline_of}
use Rattle.tm_onig_parse.proofs.Lexing.{token_shorter}
use Rattle.tm_onig_parse.proofs.Turns.{names_token_fails, names_step_fails, names_step_goes, names_at_end}
use Rattle.tm_onig_parse.proofs.outlines.names_from.Goals as goal

pub returns-in-Err : goal.returns-in-Err
returns-in-Err c =
    let some : 0 < length c.loop-rest.rest.now = grind (arith, nat_tests) in
    names_token_fails c.in-Err.fault (outline_of c.loop-rest.outline) c.loop-rest.rest.now _ some c.loop-rest.invariant (rw c.requires at c.in-Err.ensures)

pub returns-in-Err-take : goal.returns-in-Err-take
returns-in-Err-take c =
    let some : 0 < length c.loop-rest.rest.now = grind (arith, nat_tests) in
    names_step_fails c.in-Err-take.fault (outline_of c.loop-rest.outline) c.loop-rest.rest.now _ _ _ some c.loop-rest.invariant (rw c.requires at c.in-Ok.ensures) c.in-Err-take.ensures

pub loop-rest-smaller : goal.loop-rest-smaller
loop-rest-smaller c = token_shorter None c.loop-rest.outline.top c.loop-rest.rest.now _ _ (rw c.requires at c.in-Ok.ensures)

pub loop-rest-preserved : goal.loop-rest-preserved
loop-rest-preserved c =
    let some : 0 < length c.loop-rest.rest.now = grind (arith, nat_tests) in
    names_step_goes (outline_of c.loop-rest.outline) _ c.loop-rest.rest.now _ _ _ some c.loop-rest.invariant (rw c.requires at c.in-Ok.ensures) c.in_default.ensures

pub returns : goal.returns
returns c =
    let none : length c.loop-rest.rest.now ≡ 0 = grind (arith, nat_tests) in
    sym c.loop-rest.invariant ∙ names_at_end (outline_of c.loop-rest.outline) c.loop-rest.rest.now none
