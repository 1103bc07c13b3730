use Rattle.tm_line_turns.proofs.Depths.{is_run_at_each_depth}
use Rattle.tm_line.specs.Grammar.{rules_language}
use Rattle.tm_line.specs.inner.FoundWithin.{finds-in-text}
use Rattle.tm_line.proofs.one_outcome.Goals as goal

pub returns : goal.returns
returns c = λ rules. is_run_at_each_depth (rules_language rules) (finds-in-text rules)
