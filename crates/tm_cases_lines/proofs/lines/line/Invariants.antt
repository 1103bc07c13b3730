use Rattle.tm_cases_lines.proofs.lines.line.Given as goal

abbrev pub ghosts-line_of : goal.ghosts-line_of
ghosts-line_of a = record { name = a.blank.name; parts = a.blank.parts }
