use Rattle.std.proofs.Common.{ap, sym, ◌∙◌, arith}
use Rattle.tm_onig_scan.specs.Steady.{steady_if}
use Rattle.tm_onig_scan.specs.Winner.{trees_of}
use Rattle.tm_onig_scan.proofs.Tried.{length_trees}
use Rattle.tm_onig_scan.proofs.Steadied.{list_none, list_more}
use Rattle.tm_onig_scan.proofs.steady.all_steady.Goals as goal

pub loop-number-init : goal.loop-number-init
loop-number-init c = list_none (trees_of c.args.programs.now) _ (sym (length_trees c.args.programs.now))

pub loop-number-preserved : goal.loop-number-preserved
loop-number-preserved c =
    let long = length_trees c.args.programs.now in
    list_more (trees_of c.args.programs.now) c.loop-number.number (omega arith) (omega arith) c.loop-number.steady c.steady_if-steady.result c.loop-number.invariant (c.steady_if-steady.ensures ∙ ap steady_if c.program_at.ensures)
