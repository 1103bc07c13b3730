use Rattle.tm_onig_atom.proofs.Answering.{escape_is, escape_answered, escape_wide}
use Rattle.tm_onig_atom.proofs.atoms.escape.Goals as goal

pub returns-clause-found : goal.returns-clause-found
returns-clause-found c = escape_is _ c.read_atom.result c.args.options c.args.text.now c.read_atom.ensures

pub returns-clause-only : goal.returns-clause-only
returns-clause-only c = escape_answered _ c.read_atom.result c.args.options c.args.text.now c.read_atom.ensures

pub returns-clause-wide : goal.returns-clause-wide
returns-clause-wide c = escape_wide _ c.read_atom.result c.args.options c.args.text.now c.read_atom.ensures
