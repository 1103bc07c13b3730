use Rattle.std.proofs.Common.{◌≡◌}
use Rattle.tm_onig_scan.proofs.candidates.number_of.Given as goal

abbrev pub invariant-loop-number : goal.invariant-loop-number
invariant-loop-number l = l.rows.items ≡ l.fn.rows.items
