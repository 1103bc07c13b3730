use Rattle.std.proofs.Common.{◌≡◌, ◌<◌, length}
use Rattle.tm_defs.specs.Tables.{path_at}
use Rattle.tm_meta.specs.Metadata.{metadata_of}
use Rattle.tm_meta.proofs.metadata.metadata.Given as goal

abbrev pub invariant-loop-name : goal.invariant-loop-name
invariant-loop-name g l = record {
  known : l.list.0 < length (g.S.States.tables l.table).paths;
  same : metadata_of (path_at (g.S.States.tables l.table) l.list) ≡ metadata_of (path_at (g.S.States.tables l.table) l.fn.scopes);
}

abbrev pub decreases-loop-name : goal.decreases-loop-name
decreases-loop-name g l = length (path_at (g.S.States.tables l.table) l.list)
