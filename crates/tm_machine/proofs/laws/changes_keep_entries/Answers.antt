use Rattle.tm_machine.proofs.KeptEntries.{entry-edited}
use Rattle.tm_machine.proofs.laws.changes_keep_entries.Goals as goal

pub returns : goal.returns
returns c = entry-edited
