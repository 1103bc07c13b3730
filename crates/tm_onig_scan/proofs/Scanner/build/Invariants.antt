use Rattle.std.proofs.Common.{◌≡◌, map, take}
use Rattle.tm_onig_parse.specs.Parsed.{parsed}
use Rattle.tm_onig_scan.specs.Winner.{trees_of}
use Rattle.tm_onig_scan.proofs.Scanner.build.Given as goal

abbrev pub invariant-loop-text : goal.invariant-loop-text
invariant-loop-text l = trees_of l.scanner ≡ map parsed (take l.text-index l.patterns)
