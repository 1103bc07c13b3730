use Rattle.std.proofs.Common.{◌≡◌, Some, take}
use Rattle.std.specs.Prelude.{slice_get}
use Rattle.tm_defs.specs.Tables.{GrowsWithin}
use Rattle.tm_scope.specs.Entries.{path_entries, KeepsLimits}
use Rattle.tm_scope.proofs.scopes.ScopeTable.path_within.Given as goal

abbrev pub invariant-loop-name : goal.invariant-loop-name
invariant-loop-name l = record {
  at : slice_get l.self.paths l.list.0 ≡ Some (take l.name-index l.path);
  grows : GrowsWithin (path_entries l.path) l.fn.self l.self;
  kept : KeepsLimits l.fn.limit l.fn.self l.self;
}
