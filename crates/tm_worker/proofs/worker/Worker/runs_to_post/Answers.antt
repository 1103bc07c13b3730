use Rattle.std.proofs.Common.{ap, arith, length, ◌∙◌}
use Rattle.tm_text.proofs.Sizes.{small-text}
use Rattle.tm_worker.specs.Posted.{items_to_post}
use Rattle.tm_worker.proofs.Posts.{left-at, left-few, post-last, post-whole}
use Rattle.tm_worker.proofs.RunItems.{upto-apart, upto-more}
use Rattle.tm_worker.proofs.worker.Worker.runs_to_post.Goals as goal

pub push_runs-requires-clause-apart : goal.push_runs-requires-clause-apart
push_runs-requires-clause-apart g c =
    let left = c.loop-span.invariant.left in
    upto-more 0 c.loop-span.runs.items left.behind _ (left-at (length c.self.inside.document.lines) c.loop-span.runs.items c.spans-span-items.result.now c.loop-span.span-index _ c.loop-span-test.true left) left.upto

pub returns-clause-items : goal.returns-clause-items
returns-clause-items g c =
    let spans = c.spans-span-items.result.now in
    post-last c.self.inside.document.lines c.self.inside.document.entries spans c.loop-span.span-index c.loop-span.runs.items _ (omega (arith, c.loop-span-test.false)) c.loop-span.invariant.items
    ∙ post-whole c.self.inside.document.lines c.self.inside.document.entries c.self.inside.fresh.marks spans c.self.invariant c.prove_sound.ensures.sound.lengths c.spans-span-items.ensures.marks c.spans-span-items.ensures.apart c.spans-span-items.ensures.within
    ∙ ap items_to_post c.self.view_is

pub returns-clause-apart : goal.returns-clause-apart
returns-clause-apart g c = let left = c.loop-span.invariant.left in upto-apart 0 c.loop-span.runs.items left.behind left.upto

pub returns-clause-few : goal.returns-clause-few
returns-clause-few g c =
    left-few (length c.self.inside.document.lines) c.loop-span.runs.items _ (small-text c.self.inside.document.lines c.prove_sound.ensures.text).few c.loop-span.invariant.left
