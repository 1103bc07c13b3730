use Rattle.tm_cases_workers.proofs.acts.worker.Given as goal

abbrev pub ghosts-acts : goal.ghosts-acts
ghosts-acts a = record { name = a.blank.name; parts = a.blank.parts }
