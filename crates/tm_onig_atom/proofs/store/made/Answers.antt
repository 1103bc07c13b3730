use Rattle.tm_onig_atom.proofs.store.made.Goals as goal

pub returns : goal.returns
returns c = c.widen.ensures _ c.in_ok-named_set.ensures
