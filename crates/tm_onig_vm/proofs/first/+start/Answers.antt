use Rattle.std.proofs.Common.{◌∙◌, arith}
use Rattle.tm_onig_vm.specs.First.{in_first}
use Rattle.tm_onig_vm.proofs.Firsts.{row_none, any_none, row_more, any_more}
use Rattle.tm_onig_vm.proofs.first.+start.Goals as goal

pub start_any-loop-i-init : goal.start_any-loop-i-init
start_any-loop-i-init t c = λ next. c.all-any.ensures next ∙ any_none c.args.behind c.args.parts.now (in_first c.args.rest next) next

pub start_any-loop-i-preserved : goal.start_any-loop-i-preserved
start_any-loop-i-preserved t c = λ next.
    any_more c.args.behind next c.args.parts.now c.loop-i.i c.index-parts-i.result (omega arith) (omega arith) c.index-parts-i.is c.loop-i.any c.start.result c.either-any.result
    (in_first c.args.rest next) (c.loop-i.invariant next) (c.start.ensures next) (c.either-any.ensures next)

pub start_row-loop-i-init : goal.start_row-loop-i-init
start_row-loop-i-init t c = λ next. row_none c.args.behind c.args.parts.now c.args.rest next

pub start_row-loop-i-preserved : goal.start_row-loop-i-preserved
start_row-loop-i-preserved t c = λ next.
    row_more c.args.behind next c.args.parts.now c.loop-i.i c.index-parts-i.result (omega arith) (omega arith) c.index-parts-i.is c.loop-i.row c.start-row.result
    (in_first c.args.rest next) (c.loop-i.invariant next) (c.start-row.ensures next)
