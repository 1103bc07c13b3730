use Rattle.tm_line_parts.proofs.parts.push_names.Goals as goal

pub returns-in-Some-clause-adds : goal.returns-in-Some-clause-adds
returns-in-Some-clause-adds g c o =
    let same = c.in-Some.ensures c.args.level.now.text.now c.args.m.now in
    rw same at c.push_all.ensures.adds (g.R.LineRules.language c.args.level.now.rules.now).meta o

pub returns-clause-adds : goal.returns-clause-adds
returns-clause-adds g c o = rw c.in-Ok.ensures at c.push_all-2.ensures.adds (g.R.LineRules.language c.args.level.now.rules.now).meta o
