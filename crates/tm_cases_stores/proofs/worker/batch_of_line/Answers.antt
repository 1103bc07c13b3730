use Rattle.std.proofs.Common.{map}
use Rattle.tm_cases_stores.proofs.StillBatches.{get-plain, still-right}
use Rattle.tm_cases_stores.proofs.worker.batch_of_line.Goals as goal

pub new-requires : goal.new-requires
new-requires c = still-right (map (λ _. 0) c.args.settings.now) 0 c.args.epoch c.args.version c.args.first c.in_ok-item.item c.in_ok-runs.runs.items
    (get-plain c.args.settings.now c.args.epoch c.requires.epoch) c.in_ok-item.ensures.tokens c.in_ok-item.ensures.pops c.in_ok-item.ensures.pushed c.requires.line c.in_ok-runs.ensures
