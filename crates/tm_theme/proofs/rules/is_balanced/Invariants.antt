use Rattle.std.proofs.Common.{◌≡◌, drop}
use Rattle.tm_theme.specs.Rules.{is_balanced}
use Rattle.tm_theme.proofs.rules.is_balanced.Given as goal

abbrev pub invariant-loop-selector : goal.invariant-loop-selector
invariant-loop-selector g l = is_balanced (drop l.selector-index l.unbalanced) (g.S.Scopes.names l.path) ≡ is_balanced l.unbalanced (g.S.Scopes.names l.path)
