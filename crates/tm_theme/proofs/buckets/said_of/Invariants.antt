use Rattle.std.proofs.Common.{◌≡◌, ◌+◌, ◌-◌, ◌≤◌, length}
use Rattle.tm_meta.specs.Metadata.{leftmost_type}
use Rattle.tm_theme.specs.Buckets.{with_pieces, found_style}
use Rattle.tm_theme.proofs.buckets.said_of.Given as goal

abbrev pub invariant-loop-place : goal.invariant-loop-place
invariant-loop-place g l = record {
  rest : with_pieces l.all l.buckets (g.S.Scopes.names l.above) l.scope l.said.style l.place ≡ found_style l.all l.buckets (g.S.Scopes.names l.above) l.scope;
  behind : l.said.token_type ≡ leftmost_type l.scope (l.place + 1) (length l.scope - l.place);
  within : l.place ≤ length l.scope;
}

abbrev pub decreases-loop-place : goal.decreases-loop-place
decreases-loop-place g l = l.place
