use Rattle.tm_cases_lines.proofs.Wholes.{whole}
use Rattle.tm_cases_lines.proofs.callers.ends.Goals as goal

pub returns : goal.returns
returns g c = λ work good free. whole work _ _ _ _ c.run.result free (c.run.ensures.complete work good)
