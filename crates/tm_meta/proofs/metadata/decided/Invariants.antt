use Rattle.std.proofs.Common.{◌≡◌, ◌-◌, not, ◌&&◌, length}
use Rattle.std.specs.Prelude.{◌==◌}
use Rattle.tm_meta.specs.Metadata.{in_word, leftmost_type, decided_type}
use Rattle.tm_meta.proofs.metadata.decided.Given as goal

abbrev pub invariant-loop-place : goal.invariant-loop-place
invariant-loop-place l = record {
  left : leftmost_type l.scope l.place (length l.scope - l.place) ≡ decided_type l.scope;
  behind : l.inside ≡ (not (l.place == 0) && in_word l.scope (l.place - 1));
}
