use Rattle.tm_onig_scan.specs.Winner.{trees_of, patterns_at}
use Rattle.tm_onig_scan.specs.Rows.{Keeps}
use Rattle.tm_onig_scan.proofs.Rows.{AreRowsTo}
use Rattle.tm_onig_scan.proofs.candidates.made_rows.Given as goal

abbrev pub invariant-loop-class : goal.invariant-loop-class
invariant-loop-class l = Keeps l.fn.rows.items l.rows.items × AreRowsTo (patterns_at (trees_of l.programs) l.numbers) l.behind l.class l.rows.items l.made.items
