use Rattle.tm_onig_search.proofs.Spans.{match_width}
use Rattle.tm_onig_search.proofs.prove_widths.Goals as goal

pub returns : goal.returns
returns c = match_width
