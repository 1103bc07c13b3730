use Rattle.tm_machine.proofs.BornTexts.{place-map, line-changed_by}
use Rattle.tm_machine.proofs.laws.line_map_finds_births.Goals as goal

pub returns-clause-place : goal.returns-clause-place
returns-clause-place c = place-map

pub returns-clause-line : goal.returns-clause-line
returns-clause-line c = line-changed_by
