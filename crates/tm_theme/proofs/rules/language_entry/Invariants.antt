use Rattle.std.proofs.Common.{◌≡◌, ◌≤◌, drop, length}
use Rattle.std.specs.Prelude.{option_map}
use Rattle.tm_theme.specs.Rules.{language_entry}
use Rattle.tm_theme.proofs.rules.language_entry.Given as goal

abbrev pub invariant-loop-place : goal.invariant-loop-place
invariant-loop-place l = record {
  behind : option_map (λ x. x.now) l.found ≡ language_entry (drop l.place l.languages) l.scope;
  within : l.place ≤ length l.languages;
}

abbrev pub decreases-loop-place : goal.decreases-loop-place
decreases-loop-place l = l.place
