use Rattle.tm_theme.proofs.Strongest.{by-strength}
use Rattle.tm_theme.proofs.laws.prove_the_strongest_wins.Goals as goal

pub returns : goal.returns
returns c = by-strength
