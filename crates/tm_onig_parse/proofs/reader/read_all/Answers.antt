use Rattle.std.proofs.Common.{◌≡◌, length, ◌<◌, Option, arith, sym, subst, ◌∙◌}
use Rattle.std.proofs.lemmas.Bool.Decides.{nat_tests}
use Rattle.tm_onig_class.specs.Tree.{Tree, tree_of}
use Rattle.tm_onig_parse.specs.inner.Views.{Gives, names_known, state_of_reader}
use Rattle.tm_onig_parse.proofs.Lexing.{token_shorter}
use Rattle.tm_onig_parse.proofs.Turns.{token_fails, step_fails, step_goes, at_end}
use Rattle.tm_onig_parse.proofs.reader.read_all.Goals as goal

pub returns-in-Err : goal.returns-in-Err
returns-in-Err c =
    let some : 0 < length c.loop-rest.rest.now = grind (arith, nat_tests) in
    token_fails (names_known c.args.groups.now) c.in-Err.fault (state_of_reader c.loop-rest.reader) c.loop-rest.rest.now _ some c.loop-rest.invariant c.in-Err.ensures

pub returns-in-Err-take : goal.returns-in-Err-take
returns-in-Err-take c =
    let some : 0 < length c.loop-rest.rest.now = grind (arith, nat_tests) in
    step_fails (names_known c.args.groups.now) c.in-Err-take.fault (state_of_reader c.loop-rest.reader) c.loop-rest.rest.now _ _ _ some c.loop-rest.invariant c.in-Ok.ensures c.in-Err-take.ensures

pub loop-rest-smaller : goal.loop-rest-smaller
loop-rest-smaller c = token_shorter (names_known c.args.groups.now) c.loop-rest.reader.top.options c.loop-rest.rest.now _ _ c.in-Ok.ensures

pub loop-rest-preserved : goal.loop-rest-preserved
loop-rest-preserved c =
    let some : 0 < length c.loop-rest.rest.now = grind (arith, nat_tests) in
    step_goes (names_known c.args.groups.now) (state_of_reader c.loop-rest.reader) _ c.loop-rest.rest.now _ _ _ some c.loop-rest.invariant c.in-Ok.ensures c.in_default.ensures

pub returns : goal.returns
returns c =
    let none : length c.loop-rest.rest.now ≡ 0 = grind (arith, nat_tests) in
    subst (λ (o : Option Tree). Gives tree_of c.end.result o) (sym (at_end (names_known c.args.groups.now) (state_of_reader c.loop-rest.reader) c.loop-rest.rest.now none) ∙ c.loop-rest.invariant) c.end.ensures
