use Rattle.std.proofs.Common.{refl}
use Rattle.tm_meta.specs.Metadata.{type_from}
use Rattle.tm_meta.proofs.worked_words.Goals as goal

pub returns-clause-plain : goal.returns-clause-plain
unfolding type_from
returns-clause-plain c = refl

pub returns-clause-comment : goal.returns-clause-comment
unfolding type_from
returns-clause-comment c = refl

pub returns-clause-innermost : goal.returns-clause-innermost
unfolding type_from
returns-clause-innermost c = refl
