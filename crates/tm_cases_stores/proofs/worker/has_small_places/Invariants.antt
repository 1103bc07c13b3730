use Rattle.std.proofs.Common.{drop}
use Rattle.tm_rebase.specs.Places.{HasSmallPlaces}
use Rattle.tm_cases_stores.proofs.worker.has_small_places.Given as goal

abbrev pub invariant-loop-effect : goal.invariant-loop-effect
invariant-loop-effect l = HasSmallPlaces (drop l.effect-index l.effects) l.at → HasSmallPlaces l.effects l.fn.line
