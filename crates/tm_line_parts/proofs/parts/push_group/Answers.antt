use Rattle.tm_line_parts.proofs.parts.push_group.Goals as goal

pub returns-in-Fixed-clause-adds : goal.returns-in-Fixed-clause-adds
returns-in-Fixed-clause-adds g c meta o = rw c.in-Fixed.is (c.push_all.ensures.adds meta o)

pub returns-in-Ok-clause-adds : goal.returns-in-Ok-clause-adds
returns-in-Ok-clause-adds g c meta o = rw c.in-Filled.is (rw c.in-Ok.ensures at c.push_all-in-Filled.ensures.adds meta o)
