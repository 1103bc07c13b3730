use Rattle.std.proofs.Common.{ap, arith, length, subst, suc, sym, refl, ◌+◌, ◌∙◌}
use Rattle.tm_worker.specs.inner.Segments.{AreUpTo}
use Rattle.tm_worker.proofs.RunItems.{upto-more, upto-snoc}
use Rattle.tm_worker.proofs.RunSteps.{runs-next, runs-skip}
use Rattle.tm_worker.proofs.runs.push_run.Goals as goal

pub returns-then-not-is_good-clause-items : goal.returns-then-not-is_good-clause-items
returns-then-not-is_good-clause-items g c =
    runs-skip c.args.document.now.lines c.args.document.now.entries c.args.end c.requires.within c.prove_sound.ensures.sound.lengths c.args.runs.now.items c.args.at (c.args.at + 1) c.requires.some refl (sym c.is_good.ensures ∙ c.if-not-is_good.true)

pub returns-then-not-is_good-clause-apart : goal.returns-then-not-is_good-clause-apart
returns-then-not-is_good-clause-apart g c = upto-more 0 c.args.runs.now.items c.args.at (c.args.at + 1) (omega arith) c.requires.apart

pub returns-clause-items : goal.returns-clause-items
returns-clause-items g c =
    let count = ap length c.as_slice.ensures in
    let run = c.in_ok-run.ensures in
    runs-next c.args.document.now.lines c.args.document.now.entries c.args.end c.requires.within c.prove_sound.ensures.sound.lengths c.args.runs.now.items c.push.new.self.items c.in_ok-run.run' c.args.at _ c.in_ok-push.ensures.items run.first (omega (arith, count)) run.within run.items run.stops

pub returns-clause-apart : goal.returns-clause-apart
returns-clause-apart g c =
    let count = ap length c.as_slice.ensures in
    let run = c.in_ok-run.ensures in
    let more = upto-snoc 0 c.args.runs.now.items c.in_ok-run.run' c.args.at c.requires.apart (omega (arith, run.first)) run.some in
    upto-more 0 c.push.new.self.items (suc (c.in_ok-run.run'.first + length c.in_ok-run.run'.items)) _ (omega (arith, count, run.first))
    (subst (λ xs. AreUpTo 0 xs (suc (c.in_ok-run.run'.first + length c.in_ok-run.run'.items))) (sym c.in_ok-push.ensures.items) more)
