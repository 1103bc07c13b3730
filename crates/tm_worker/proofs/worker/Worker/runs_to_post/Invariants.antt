use Rattle.std.proofs.Common.{◌≡◌, ◌++◌, drop, length}
use Rattle.std.specs.List.{AllByRecursion}
use Rattle.tm_document.specs.Held.{setting_now}
use Rattle.tm_rebase.specs.Batches.{items_of_runs}
use Rattle.tm_rebase.specs.Right.{IsRightRun}
use Rattle.tm_worker.specs.inner.Segments.{segments}
use Rattle.tm_worker.proofs.Posts.{SpansLeft}
use Rattle.tm_worker.proofs.worker.Worker.runs_to_post.Given as goal

abbrev pub invariant-loop-span : goal.invariant-loop-span
invariant-loop-span g l = record {
  items : items_of_runs l.runs.items ++ segments l.self-inside.document.lines l.self-inside.document.entries (drop l.span-index l.span-items) ≡ segments l.self-inside.document.lines l.self-inside.document.entries l.span-items;
  left : SpansLeft (length l.self-inside.document.lines) l.runs.items (drop l.span-index l.span-items);
  right : AllByRecursion (IsRightRun (setting_now g.T.LineTok.plain g.T.LineTok.tokenized g.T.LineTok.plain_cost g.T.LineTok.entries_made l.self-inside.document).tokenized) l.runs.items;
}
