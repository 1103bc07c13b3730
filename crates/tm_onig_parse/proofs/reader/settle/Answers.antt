use Rattle.std.proofs.Common.{◌≡◌, ◌<◌, length, sym, subst, ◌∙◌, arith}
use Rattle.std.proofs.lemmas.Bool.Decides.{nat_tests}
use Rattle.tm_onig_parse.specs.inner.Views.{Fails, levels_of, level_of_frame, state_of_reader}
use Rattle.tm_onig_parse.proofs.Settling.{left_one, left_fails, settled_other, settled_whole, length-levels}
use Rattle.tm_onig_parse.proofs.reader.settle.Goals as goal

pub returns-in-Err-clause-pair : goal.returns-in-Err-clause-pair
returns-in-Err-clause-pair c =
    let some : 0 < length c.loop-reader.reader.outer.items = grind (arith, nat_tests) in
    subst (Fails c.in-Err.fault) c.loop-reader.invariant.0
    (left_fails c.in-Err.fault (levels_of c.loop-reader.reader.outer.items) (level_of_frame c.loop-reader.reader.top) c.loop-reader.reader.opened (sym c.is_set.ensures ∙ c.loop-reader-test.true) (omega (arith, some, length-levels c.loop-reader.reader.outer.items)) c.in-Err.ensures)

pub loop-reader-smaller : goal.loop-reader-smaller
loop-reader-smaller c =
    (left_one (levels_of c.loop-reader.reader.outer.items) (level_of_frame c.loop-reader.reader.top) c.loop-reader.reader.opened (state_of_reader c.leave.new.reader) (sym c.is_set.ensures ∙ c.loop-reader-test.true) c.in_default.ensures).shorter

pub loop-reader-preserved : goal.loop-reader-preserved
loop-reader-preserved c =
    let l = left_one (levels_of c.loop-reader.reader.outer.items) (level_of_frame c.loop-reader.reader.top) c.loop-reader.reader.opened (state_of_reader c.leave.new.reader) (sym c.is_set.ensures ∙ c.loop-reader-test.true) c.in_default.ensures in
    (l.settles ∙ c.loop-reader.invariant.0, l.opened_same ∙ c.loop-reader.invariant.1)

pub returns-else-not-is_empty-clause-pair : goal.returns-else-not-is_empty-clause-pair
returns-else-not-is_empty-clause-pair c =
    let none : length c.loop-reader.reader.outer.items ≡ 0 = grind (arith, nat_tests) in
    sym c.loop-reader.invariant.0 ∙ settled_whole _ _ (length-levels c.loop-reader.reader.outer.items ∙ none)

pub returns-after-loop-reader-clause-pair : goal.returns-after-loop-reader-clause-pair
returns-after-loop-reader-clause-pair c = sym c.loop-reader.invariant.0 ∙ settled_other _ _ (sym c.is_set.ensures ∙ c.loop-reader-test.false)
