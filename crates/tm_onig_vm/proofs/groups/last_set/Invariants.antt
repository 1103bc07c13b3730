use Rattle.std.proofs.Common.{◌≡◌, drop}
use Rattle.tm_onig_search.specs.Search.{last_set}
use Rattle.tm_onig_vm.proofs.groups.last_set.Given as goal

abbrev pub invariant-loop-i : goal.invariant-loop-i
invariant-loop-i l = l.found ≡ last_set l.caps (drop l.i l.groups)
