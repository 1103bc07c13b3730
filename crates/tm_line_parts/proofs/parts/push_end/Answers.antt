use Rattle.tm_line_parts.proofs.parts.push_end.Goals as goal

pub returns-clause-adds : goal.returns-clause-adds
returns-clause-adds g c o = rw c.in-Ok.ensures at c.end_number.ensures.adds (g.R.LineRules.language c.args.level.now.rules.now).meta o
