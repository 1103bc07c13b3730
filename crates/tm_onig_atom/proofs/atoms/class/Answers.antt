use Rattle.tm_onig_atom.proofs.Answering.{class_is, class_answered, class_wide, class_low}
use Rattle.tm_onig_atom.proofs.atoms.class.Goals as goal

pub returns-clause-found : goal.returns-clause-found
returns-clause-found c = class_is _ c.read_class.result c.args.depth c.args.options c.args.text.now c.read_class.ensures

pub returns-clause-only : goal.returns-clause-only
returns-clause-only c = class_answered _ c.read_class.result c.args.depth c.args.options c.args.text.now c.read_class.ensures

pub returns-clause-wide : goal.returns-clause-wide
returns-clause-wide c = class_wide _ c.read_class.result c.args.depth c.args.options c.args.text.now c.read_class.ensures

pub returns-clause-low : goal.returns-clause-low
returns-clause-low c = class_low _ c.read_class.result c.args.depth c.args.options c.args.text.now c.read_class.ensures
