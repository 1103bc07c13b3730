use Rattle.std.proofs.Common.{[]}
use Rattle.tm_onig_scan.specs.Winner.{trees_of}
use Rattle.tm_line.specs.Search.{start_text, own_end}
use Rattle.tm_line.specs.inner.Prepared.{read_by}
use Rattle.tm_line.proofs.ReadPatterns.{AreReadTo}
use Rattle.tm_line.proofs.prepared.scanner_of.Given as goal

abbrev pub invariant-loop-n : goal.invariant-loop-n
invariant-loop-n l = AreReadTo [] start_text l.rules l.n (trees_of l.scanner)

abbrev pub invariant-loop-n-2 : goal.invariant-loop-n-2
invariant-loop-n-2 l = AreReadTo (read_by start_text l.rules) own_end l.rules l.n (trees_of l.scanner)
