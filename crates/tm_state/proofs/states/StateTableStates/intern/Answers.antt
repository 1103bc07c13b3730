use Rattle.std.proofs.Common.{◌∙◌, sym}
use Rattle.tm_defs.specs.Tables.{only_state, deeper_state}
use Rattle.tm_state.proofs.Full.{err-full-some}
use Rattle.tm_state.proofs.states.StateTableStates.intern.Goals as goal

pub returns-clause-full : goal.returns-clause-full
returns-clause-full c =
    err-full-some c.intern_within-result.result (only_state (deeper_state c.args.self.now c.args.parent c.args.frame)) c.intern_within-result.new.self c.limit-limit.result
    (c.limit-limit.ensures ∙ sym c.intern_within-result.ensures.grows.limit) c.prove_known.ensures c.intern_within-result.ensures.full
