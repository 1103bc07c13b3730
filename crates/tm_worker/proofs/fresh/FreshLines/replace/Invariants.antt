use Rattle.std.proofs.Common.{◌≡◌, ℕ, ◌≤◌, ◌*◌, ◌++◌, length, drop, vec_len, vec_capacity}
use Rattle.tm_store.specs.Spans.{AreFrom}
use Rattle.tm_worker.specs.Fresh.{cut_ranges}
use Rattle.tm_worker.proofs.Ranges.{AreBelow}
use Rattle.tm_worker.proofs.fresh.FreshLines.replace.Given as goal

abbrev pub invariant-loop-span : goal.invariant-loop-span
invariant-loop-span l = record {
  items : l.next.items ++ cut_ranges l.effect.first l.effect.old l.effect.new (drop l.span-index l.span-items) ≡ cut_ranges l.effect.first l.effect.old l.effect.new l.span-items;
  few : vec_len l.next ≤ 2 * l.span-index;
  room : 2 * length l.span-items ≤ vec_capacity l.next;
  rest : (k : ℕ) × AreFrom k (drop l.span-index l.span-items);
  small : AreBelow 2147483647 (drop l.span-index l.span-items);
}
