use Rattle.tm_onig_parse.specs.inner.Reading.{step}
use Rattle.tm_onig_parse.specs.inner.Views.{state_of_reader}
use Rattle.tm_onig_parse.proofs.Steps.{steps_over, with_top, with_top_row}
use Rattle.tm_onig_parse.proofs.reader.take.Goals as goal

pub returns-in-Means : goal.returns-in-Means
unfolding step
returns-in-Means c = rw c.in-Means.is (steps_over (with_top_row (state_of_reader c.args.reader.now)) _ _ _ c.push.ensures)

pub returns-in-Or : goal.returns-in-Or
unfolding step
returns-in-Or c = rw c.in-Or.is (steps_over (with_top (state_of_reader c.args.reader.now)) _ _ _ c.end_row.ensures)

pub returns-in-Repeats : goal.returns-in-Repeats
unfolding step
returns-in-Repeats c = rw c.in-Repeats.is (steps_over (with_top_row (state_of_reader c.args.reader.now)) _ _ _ c.repeat_last.ensures)
