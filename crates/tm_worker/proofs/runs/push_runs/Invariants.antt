use Rattle.std.proofs.Common.{◌≡◌, ◌-◌, ◌≤◌, ◌++◌, suc}
use Rattle.std.specs.List.{AllByRecursion}
use Rattle.tm_document.specs.Held.{setting_now}
use Rattle.tm_rebase.specs.Batches.{items_of_runs}
use Rattle.tm_rebase.specs.Right.{IsRightRun}
use Rattle.tm_worker.specs.inner.Segments.{AreUpTo, segment}
use Rattle.tm_worker.proofs.runs.push_runs.Given as goal

abbrev pub invariant-lines : goal.invariant-lines
invariant-lines g l = record {
  items : items_of_runs l.runs.items ++ segment l.document.lines l.document.entries l.at l.span.end ≡ items_of_runs l.fn.runs.items ++ segment l.document.lines l.document.entries l.span.first l.span.end;
  apart : AreUpTo 0 l.runs.items l.at;
  right : AllByRecursion (IsRightRun (setting_now g.T.LineTok.plain g.T.LineTok.tokenized g.T.LineTok.plain_cost g.T.LineTok.entries_made l.document).tokenized) l.runs.items;
  within : l.at ≤ suc l.span.end;
}

abbrev pub decreases-lines : goal.decreases-lines
decreases-lines g l = l.span.end - l.at
