use Rattle.std.proofs.Common.{◌≡◌, drop, length, Some}
use Rattle.tm_theme.specs.Style.{climb}
use Rattle.tm_theme.proofs.strength.climb.Given as goal

abbrev pub invariant-loop-word : goal.invariant-loop-word
invariant-loop-word g l =
    climb (drop l.word-index l.words) (g.S.Scopes.names l.above) (Some l.place) ≡ climb l.words (g.S.Scopes.names l.above) (Some (length (g.S.Scopes.names l.above)))
