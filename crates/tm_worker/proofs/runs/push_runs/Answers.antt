use Rattle.std.proofs.Common.{arith, suc}
use Rattle.tm_text.proofs.Sizes.{small-text}
use Rattle.tm_worker.proofs.RunItems.{upto-more}
use Rattle.tm_worker.proofs.RunSteps.{runs-end}
use Rattle.tm_worker.proofs.runs.push_runs.Goals as goal

pub returns-clause-items : goal.returns-clause-items
returns-clause-items g c = runs-end c.args.document.now.lines c.args.document.now.entries c.args.span.end c.requires.within c.prove_sound.ensures.sound.lengths c.lines.runs.items c.lines.at _ (omega (arith, c.lines-test.false)) c.lines.invariant.items

pub returns-clause-apart : goal.returns-clause-apart
returns-clause-apart g c = upto-more 0 c.lines.runs.items c.lines.at (suc c.args.span.end) c.lines.invariant.within c.lines.invariant.apart

pub push_run-requires-clause-small : goal.push_run-requires-clause-small
push_run-requires-clause-small g c = let few = (small-text c.args.document.now.lines c.prove_sound.ensures.text).few in omega (arith, few)
