use Rattle.std.proofs.Common.{ap, sym, ◌∙◌, arith}
use Rattle.tm_onig_scan.specs.Steady.{steady_if}
use Rattle.tm_onig_scan.specs.Winner.{trees_of, patterns_at}
use Rattle.tm_onig_scan.proofs.Steadied.{list_none, list_more, length_listed}
use Rattle.tm_onig_scan.proofs.steady.listed_steady.Goals as goal

pub loop-place-init : goal.loop-place-init
loop-place-init c = list_none (patterns_at (trees_of c.args.programs.now) c.args.numbers.now) _ (sym (length_listed (trees_of c.args.programs.now) c.args.numbers.now))

pub loop-place-preserved : goal.loop-place-preserved
loop-place-preserved c =
    let long = length_listed (trees_of c.args.programs.now) c.args.numbers.now in
    list_more (patterns_at (trees_of c.args.programs.now) c.args.numbers.now) c.loop-place.place (omega arith) (omega arith) c.loop-place.steady c.steady_if-steady.result c.loop-place.invariant
    (c.steady_if-steady.ensures ∙ ap steady_if c.program_of_place.ensures)
