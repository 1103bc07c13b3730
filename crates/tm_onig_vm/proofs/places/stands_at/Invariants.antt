use Rattle.std.proofs.Common.{◌≡◌, ◌+◌, drop}
use Rattle.tm_onig_search.specs.Places.{begins}
use Rattle.tm_onig_vm.proofs.places.stands_at.Given as goal

abbrev pub invariant-loop-i : goal.invariant-loop-i
invariant-loop-i l = begins l.fold l.text (drop l.pos l.line) ≡ begins l.fold (drop l.i l.text) (drop (l.pos + l.i) l.line)
