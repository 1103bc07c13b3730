use Rattle.tm_machine.proofs.PlaceTests.{bad_place-none, bad_place-some}
use Rattle.tm_machine.proofs.laws.bad_places_are_told.Goals as goal

pub returns-clause-good : goal.returns-clause-good
returns-clause-good c = bad_place-none

pub returns-clause-bad : goal.returns-clause-bad
returns-clause-bad c = bad_place-some
