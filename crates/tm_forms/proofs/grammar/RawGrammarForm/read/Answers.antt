use Rattle.tm_forms.proofs.Answered.{answered}
use Rattle.tm_forms.proofs.grammar.RawGrammarForm.read.Goals as goal

pub returns-in-Ok : goal.returns-in-Ok
returns-in-Ok c = answered c.args.bytes.now c.skip_mark.result.now c.skip_mark.ensures c.in-Ok.grammar c.built.result c.in-Ok.ensures.tree c.built.ensures
