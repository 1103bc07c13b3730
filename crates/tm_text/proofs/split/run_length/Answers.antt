use Rattle.std.proofs.Common.{sym, ◌∙◌}
use Rattle.tm_text.proofs.SplitLines.{no-break-none}
use Rattle.tm_text.proofs.split.run_length.Goals as goal

pub returns-in-None-clause-run : goal.returns-in-None-clause-run
returns-in-None-clause-run c = no-break-none c.args.text.now (sym c.first_break.ensures ∙ c.in-None.is)
