use Rattle.tm_cases_workers.proofs.many.many.Given as goal

abbrev pub ghosts-worked : goal.ghosts-worked
ghosts-worked a = record { name = a.blank.name; parts = a.blank.parts }
