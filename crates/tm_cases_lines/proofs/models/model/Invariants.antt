use Rattle.tm_cases_lines.proofs.models.model.Given as goal

abbrev pub ghosts-acts : goal.ghosts-acts
ghosts-acts a = record { name = a.blank.name; parts = a.blank.parts }
