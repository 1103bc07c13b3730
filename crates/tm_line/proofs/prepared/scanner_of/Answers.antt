use Rattle.std.proofs.Common.{[]}
use Rattle.std.specs.Option.{option_copied}
use Rattle.tm_onig_scan.specs.Winner.{trees_of}
use Rattle.tm_line.specs.Search.{start_text, own_end}
use Rattle.tm_line.specs.inner.Prepared.{read_by}
use Rattle.tm_line.proofs.ReadPatterns.{one-read}
use Rattle.tm_line.proofs.prepared.scanner_of.Goals as goal

pub loop-n-preserved : goal.loop-n-preserved
loop-n-preserved c =
    one-read [] start_text c.args.rules.now c.loop-n.n c.rule.result.now (trees_of c.loop-n.scanner) (trees_of c.push_with.new.self) (option_copied c.start_text.result) c.loop-n.invariant c.rule.ensures c.start_text.ensures c.in_ok-push_with.ensures.ok

pub loop-n-2-preserved : goal.loop-n-2-preserved
loop-n-2-preserved c =
    one-read (read_by start_text c.args.rules.now) own_end c.args.rules.now c.loop-n-2.n c.rule-in-loop-n-2.result.now (trees_of c.loop-n-2.scanner) (trees_of c.push_with-in-loop-n-2.new.self) (option_copied c.own_end.result) c.loop-n-2.invariant c.rule-in-loop-n-2.ensures c.own_end.ensures c.in_ok-push_with-2.ensures.ok
