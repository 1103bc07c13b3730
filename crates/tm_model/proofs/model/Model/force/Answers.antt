use Rattle.std.proofs.Common.{arith, refl}
use Rattle.tm_model.proofs.ForcedRuns.{ran-begins, ran-few, ran-does, ran-smaller, ran-blocked, ran-costs, ran-ends, ran-counted, grows-turn, cause-refused, others-next}
use Rattle.tm_text.proofs.Sizes.{small-text}
use Rattle.tm_model.proofs.model.Model.force.Goals as goal

pub lines-init : goal.lines-init
lines-init g c = ran-begins g.T.LineTok.plain g.T.LineTok.tokenized g.T.LineTok.plain_cost g.T.LineTok.entries_made c.args.self.now c.args.line c.args.steps.now

pub lines-preserved : goal.lines-preserved
lines-preserved g c =
    (ran-does g.T.LineTok.plain g.T.LineTok.tokenized g.T.LineTok.plain_cost g.T.LineTok.entries_made c.args.self.now c.lines.self c.args.line c.lines.done c.args.steps.now c.lines.steps c.lines.invariant c.turn_at.new.self c.turn_at.ensures.others c.in-Some.i _ c.turn_at.new.steps c.prove_sound.ensures.sound.right c.in-Some.ensures.1 c.in-Some.ensures.0 (rw c.in-Ok-Done.field-0-is at c.in-Ok-Done.ensures.turn) c.turn_at.ensures.grows c.turn_at.ensures.ticks).0

pub returns-in-Ok-Blocked-clause-forced : goal.returns-in-Ok-Blocked-clause-forced
returns-in-Ok-Blocked-clause-forced g c = ran-blocked g.T.LineTok.plain g.T.LineTok.tokenized g.T.LineTok.plain_cost g.T.LineTok.entries_made c.args.self.now c.lines.self c.args.line c.lines.done c.args.steps.now c.lines.steps c.lines.invariant c.turn_at.new.self c.turn_at.ensures.others c.in-Some.i c.in-Ok-Blocked.front c.in-Some.ensures.1 c.in-Some.ensures.0 (rw c.in-Ok-Blocked.field-0-is at c.in-Ok-Blocked.ensures.turn)

pub returns-in-Ok-Blocked-clause-ticks : goal.returns-in-Ok-Blocked-clause-ticks
returns-in-Ok-Blocked-clause-ticks g c = (c.lines.self.entries, ran-ends g.T.LineTok.plain g.T.LineTok.tokenized g.T.LineTok.plain_cost g.T.LineTok.entries_made c.args.self.now c.lines.self c.args.line c.lines.done c.args.steps.now c.lines.steps c.lines.invariant c.turn_at.new.self c.turn_at.ensures.others c.in-Some.i c.lines.self.entries c.turn_at.new.steps refl c.in-Some.ensures.1 c.in-Some.ensures.0 c.turn_at.ensures.ticks)

pub returns-in-Ok-Blocked-clause-others : goal.returns-in-Ok-Blocked-clause-others
returns-in-Ok-Blocked-clause-others g c = others-next g.T.LineTok.plain g.T.LineTok.tokenized g.T.LineTok.plain_cost g.T.LineTok.entries_made c.args.self.now c.lines.self c.args.line c.lines.done c.args.steps.now c.lines.steps c.lines.invariant c.turn_at.new.self c.turn_at.ensures.others

pub returns-in-Ok-Blocked-clause-grows : goal.returns-in-Ok-Blocked-clause-grows
returns-in-Ok-Blocked-clause-grows g c = grows-turn g.T.LineTok.plain g.T.LineTok.tokenized g.T.LineTok.plain_cost g.T.LineTok.entries_made c.args.self.now c.lines.self c.args.line c.lines.done c.args.steps.now c.lines.steps c.lines.invariant c.turn_at.new.self c.turn_at.ensures.others c.prove_sound.ensures.sound.right c.turn_at.ensures.grows

pub returns-in-Ok-Blocked-clause-blocked : goal.returns-in-Ok-Blocked-clause-blocked
returns-in-Ok-Blocked-clause-blocked g c = ran-costs g.T.LineTok.plain g.T.LineTok.tokenized g.T.LineTok.plain_cost g.T.LineTok.entries_made c.args.self.now c.lines.self c.args.line c.lines.done c.args.steps.now c.lines.steps c.lines.invariant c.turn_at.new.self c.turn_at.ensures.others c.in-Some.i c.in-Ok-Blocked.front c.prove_sound.ensures.sound.right c.in-Some.ensures.1 c.in-Some.ensures.0 (rw c.in-Ok-Blocked.field-0-is at c.in-Ok-Blocked.ensures.turn)

pub unreachable-requires : goal.unreachable-requires
unreachable-requires g c =
    let at = c.in-Some.ensures.0 in
    let idle = rw c.in-Ok-Idle.field-0-is at c.in-Ok-Idle.ensures.turn in
    let none = idle.0 in
    cc

pub returns-in-Err-clause-refused : goal.returns-in-Err-clause-refused
returns-in-Err-clause-refused g c = (c.lines.done, ran-ends g.T.LineTok.plain g.T.LineTok.tokenized g.T.LineTok.plain_cost g.T.LineTok.entries_made c.args.self.now c.lines.self c.args.line c.lines.done c.args.steps.now c.lines.steps c.lines.invariant c.turn_at.new.self c.turn_at.ensures.others c.in-Some.i c.turn_at.new.self.entries c.turn_at.new.steps c.in-Err.ensures.err c.in-Some.ensures.1 c.in-Some.ensures.0 c.turn_at.ensures.ticks)

pub returns-in-Err-clause-others : goal.returns-in-Err-clause-others
returns-in-Err-clause-others g c = others-next g.T.LineTok.plain g.T.LineTok.tokenized g.T.LineTok.plain_cost g.T.LineTok.entries_made c.args.self.now c.lines.self c.args.line c.lines.done c.args.steps.now c.lines.steps c.lines.invariant c.turn_at.new.self c.turn_at.ensures.others

pub returns-in-Err-clause-grows : goal.returns-in-Err-clause-grows
returns-in-Err-clause-grows g c = grows-turn g.T.LineTok.plain g.T.LineTok.tokenized g.T.LineTok.plain_cost g.T.LineTok.entries_made c.args.self.now c.lines.self c.args.line c.lines.done c.args.steps.now c.lines.steps c.lines.invariant c.turn_at.new.self c.turn_at.ensures.others c.prove_sound.ensures.sound.right c.turn_at.ensures.grows

pub returns-in-Err-clause-cause : goal.returns-in-Err-clause-cause
returns-in-Err-clause-cause g c = cause-refused g.T.LineTok.plain g.T.LineTok.tokenized g.T.LineTok.plain_cost g.T.LineTok.entries_made c.args.self.now c.lines.self c.args.line c.lines.done c.args.steps.now c.lines.steps c.lines.invariant c.turn_at.new.self c.turn_at.ensures.others c.in-Err.fault c.in-Err.ensures.err c.in-Err.ensures.cause

pub overflow_add-done : goal.overflow_add-done
overflow_add-done g c =
    let few = ran-few g.T.LineTok.plain g.T.LineTok.tokenized g.T.LineTok.plain_cost g.T.LineTok.entries_made c.args.self.now c.lines.self c.args.line c.lines.done c.args.steps.now c.lines.steps c.lines.invariant in
    let small = (small-text c.args.self.now.lines c.prove_sound.ensures.text).few in
    omega (arith, few, small, c.prove_sound.ensures.sound.lengths)

pub lines-smaller : goal.lines-smaller
lines-smaller g c = ran-smaller g.T.LineTok.plain g.T.LineTok.tokenized g.T.LineTok.plain_cost g.T.LineTok.entries_made c.args.self.now c.lines.self c.args.line c.lines.done c.args.steps.now c.lines.steps c.lines.invariant c.turn_at.new.self c.turn_at.ensures.others c.in-Some.i _ c.turn_at.new.steps c.prove_sound.ensures.sound.right c.in-Some.ensures.1 c.in-Some.ensures.0 (rw c.in-Ok-Done.field-0-is at c.in-Ok-Done.ensures.turn) c.turn_at.ensures.grows c.turn_at.ensures.ticks

pub returns-clause-ticks : goal.returns-clause-ticks
returns-clause-ticks g c = (c.lines.self.entries, ran-counted g.T.LineTok.plain g.T.LineTok.tokenized g.T.LineTok.plain_cost g.T.LineTok.entries_made c.args.self.now c.lines.self c.args.line c.lines.done c.args.steps.now c.lines.steps c.lines.invariant c.in_default.ensures)
