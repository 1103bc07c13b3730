use Rattle.std.proofs.Common.{arith}
use Rattle.tm_store.proofs.EntryLists.{guess-same, guess-last, guess-changed}
use Rattle.tm_store.proofs.store.guess_entry.Goals as goal
use Rattle.tm_store.proofs.store.guess_entry.Goals.{else-not-same-via-then-not-same+else-i-len, else-not-same-via-else-not-same}

pub returns-then-i-len : goal.returns-then-i-len
returns-then-i-len g c =
    rw c.if-not-same.true (guess-changed c.args.entries.now.items c.args.i c.args.tokens c.args.end _ _ (omega arith) c.index_mut-entry.ensures.value c.index_mut-next.ensures.value)

pub returns-else-not-same : goal.returns-else-not-same
returns-else-not-same g c = elim c.else-not-same.branch [
  | else-not-same-via-then-not-same+else-i-len w ↦ guess-last c.args.entries.now.items c.args.i c.args.tokens c.args.end c.args.same _ (omega arith) (omega arith) c.index_mut-entry.ensures.value
  | else-not-same-via-else-not-same w ↦ rw w.if-not-same.false (guess-same c.args.entries.now.items c.args.i c.args.tokens c.args.end _ (omega arith) c.index_mut-entry.ensures.value)
]
