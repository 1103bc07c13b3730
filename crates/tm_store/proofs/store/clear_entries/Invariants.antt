use Rattle.std.proofs.Common.{◌≡◌, ◌++◌, None, drop, replicate, vec_len}
use Rattle.tm_machine.specs.Entries.{blank}
use Rattle.tm_store.proofs.store.clear_entries.Given as goal

abbrev pub invariant-loop-i : goal.invariant-loop-i
invariant-loop-i g l = record {
  items : l.entries.items ≡ replicate l.i (blank None) ++ drop l.i l.fn.entries.items;
  len : vec_len l.entries ≡ vec_len l.fn.entries;
}
