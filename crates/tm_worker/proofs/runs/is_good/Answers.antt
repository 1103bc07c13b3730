use Rattle.std.proofs.Common.{sym}
use Rattle.tm_worker.proofs.RunItems.{good-there}
use Rattle.tm_worker.proofs.runs.is_good.Goals as goal

pub returns : goal.returns
returns g c = sym (good-there c.args.document.now.entries c.args.i _ c.entry.ensures.entry)
