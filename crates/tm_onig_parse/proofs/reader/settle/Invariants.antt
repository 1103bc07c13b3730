use Rattle.std.proofs.Common.{◌≡◌, length}
use Rattle.tm_onig_parse.specs.inner.Reading.{settled}
use Rattle.tm_onig_parse.specs.inner.Views.{state_of_reader, levels_of}
use Rattle.tm_onig_parse.proofs.reader.settle.Given as goal

abbrev pub invariant-loop-reader : goal.invariant-loop-reader
invariant-loop-reader l = let now = state_of_reader l.reader in let was = state_of_reader l.initial.reader in
    (settled now.outer now.top ≡ settled was.outer was.top) × (now.opened ≡ was.opened)

abbrev pub decreases-loop-reader : goal.decreases-loop-reader
decreases-loop-reader l = length (levels_of l.reader.outer.items)
