use Rattle.std.proofs.Common.{refl}
use Rattle.tm_paint.specs.Painted.{runs_from}
use Rattle.tm_paint.proofs.worked_pieces.Goals as goal

pub returns-clause-whole : goal.returns-clause-whole
unfolding runs_from
returns-clause-whole c = refl

pub returns-clause-front : goal.returns-clause-front
unfolding runs_from
returns-clause-front c = refl

pub returns-clause-two : goal.returns-clause-two
unfolding runs_from
returns-clause-two c = refl
