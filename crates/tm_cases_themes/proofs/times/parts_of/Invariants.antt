use Rattle.tm_theme.specs.Style.{IsSmall}
use Rattle.tm_cases_themes.proofs.times.parts_of.Given as goal

abbrev pub invariant-loop-place : goal.invariant-loop-place
invariant-loop-place l = IsSmall l.parts.look
