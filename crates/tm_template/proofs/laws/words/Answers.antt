use Rattle.tm_template.proofs.Words.{are_words, words_are}
use Rattle.tm_template.proofs.laws.words.Goals as goal

pub returns-clause-determined : goal.returns-clause-determined
returns-clause-determined c = words_are

pub returns-clause-names : goal.returns-clause-names
returns-clause-names c text = are_words text
