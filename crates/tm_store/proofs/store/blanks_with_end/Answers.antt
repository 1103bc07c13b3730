use Rattle.tm_store.proofs.EntryLists.{blanks-last}
use Rattle.tm_store.proofs.store.blanks_with_end.Goals as goal

pub returns : goal.returns
returns g c = rw (c.in_ok-push.ensures.items, c.in_ok-entries.ensures, c.blank_entry.ensures) (blanks-last c.args.count c.args.end c.requires)
