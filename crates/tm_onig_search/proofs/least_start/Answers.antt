use Rattle.std.proofs.Common.{◌+◌, ◌-◌, length, arith}
use Rattle.tm_onig_search.specs.Places.{subject}
use Rattle.tm_onig_search.proofs.Least.{is_least, none_of}
use Rattle.tm_onig_search.proofs.least_start.Goals as goal

pub returns-clause-some : goal.returns-clause-some
returns-clause-some c = is_least

pub returns-clause-none : goal.returns-clause-none
returns-clause-none c = λ t line from allow_a allow_g none start low high.
    none_of (subject line from allow_a allow_g) t (length line + 1 - from) from none start low (omega arith)
