use Rattle.std.proofs.Common.{sym, ◌∙◌}
use Rattle.tm_onig_scan.proofs.Elsewhere.{steady-set}
use Rattle.tm_onig_scan.proofs.steady.steady_put.Goals as goal

pub returns-in-Some : goal.returns-in-Some
returns-in-Some c = λ is patterns all. rw c.in-Some.is (steady-set patterns c.in-Some.instead.place _ all (sym c.steady_if.ensures ∙ is))
