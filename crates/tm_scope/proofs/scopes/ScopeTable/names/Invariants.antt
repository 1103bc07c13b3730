use Rattle.std.proofs.Common.{◌≡◌, ◌<◌, ◌++◌, length}
use Rattle.std.specs.Prelude.{reverse}
use Rattle.tm_defs.specs.Tables.{path_at}
use Rattle.tm_scope.proofs.scopes.ScopeTable.names.Given as goal

abbrev pub invariant-loop-name : goal.invariant-loop-name
invariant-loop-name l = record {
  low : l.rest.0 < length l.self.paths;
  all : path_at l.self l.rest ++ reverse l.names.items ≡ path_at l.self l.fn.list;
}

abbrev pub decreases-loop-name : goal.decreases-loop-name
decreases-loop-name l = l.rest.0
