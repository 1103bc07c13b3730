use Rattle.std.proofs.Common.{◌≡◌, drop}
use Rattle.tm_machine.specs.Changes.{line_after}
use Rattle.tm_rebase.specs.Places.{HasSmallPlaces}
use Rattle.tm_rebase.proofs.places.map.Given as goal

abbrev pub invariant-loop-effect : goal.invariant-loop-effect
invariant-loop-effect l = record {
  place : line_after (drop l.effect-index l.effects) l.at ≡ line_after l.effects l.fn.line;
  small : HasSmallPlaces (drop l.effect-index l.effects) l.at;
}
