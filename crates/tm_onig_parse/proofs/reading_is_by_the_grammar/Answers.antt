use Rattle.tm_onig_parse.proofs.Laws.{parsed_found, parsed_only}
use Rattle.tm_onig_parse.proofs.reading_is_by_the_grammar.Goals as goal

pub returns-clause-found : goal.returns-clause-found
returns-clause-found c text tree e = parsed_found text tree e

pub returns-clause-only : goal.returns-clause-only
returns-clause-only c text alts spells = parsed_only text alts spells
