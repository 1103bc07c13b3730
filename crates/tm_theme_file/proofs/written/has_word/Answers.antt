use Rattle.std.proofs.Common.{sym, ◌∙◌, arith}
use Rattle.tm_theme_file.proofs.Places.{before-step}
use Rattle.tm_theme_file.proofs.written.has_word.Goals as goal

pub loop-place-preserved : goal.loop-place-preserved
loop-place-preserved c = record {
  same = before-step c.args.word.now c.args.text.now c.loop-place.place c.loop-place-test.true (sym c.stands_at.ensures ∙ c.if-stands_at.false) ∙ c.loop-place.invariant.same;
  within = omega (arith, c.loop-place.invariant.within);
}
