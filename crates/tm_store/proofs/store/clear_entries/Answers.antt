use Rattle.std.proofs.Common.{arith, ◌∙◌, ap, set}
use Rattle.tm_store.proofs.EntryLists.{blank-next}
use Rattle.tm_store.proofs.store.clear_entries.Goals as goal

pub loop-i-preserved : goal.loop-i-preserved
loop-i-preserved g c = record {
  items = ap (set c.loop-i.entries.items c.loop-i.i) c.blank_entry.ensures ∙ blank-next c.loop-i.entries.items _ c.loop-i.i (omega (arith, c.loop-i.invariant.len)) c.loop-i.invariant.items;
  len = omega (arith, c.loop-i.invariant.len);
}
