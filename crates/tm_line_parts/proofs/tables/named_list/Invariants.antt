use Rattle.std.proofs.Common.{◌≡◌, ◌++◌, Some, take}
use Rattle.std.specs.Prelude.{slice_get}
use Rattle.tm_defs.specs.Tables.{GrowsWithin, path_at}
use Rattle.tm_line_turns.specs.LineRun.{names_made}
use Rattle.tm_line_parts.proofs.tables.named_list.Given as goal

abbrev pub invariant-loop-name : goal.invariant-loop-name
invariant-loop-name g l = record {
  listed : slice_get (g.S.States.tables l.table).paths l.longer.0 ≡ Some (path_at (g.S.States.tables l.fn.table) l.fn.list ++ take l.name-index l.names);
  grows : GrowsWithin (names_made (path_at (g.S.States.tables l.fn.table) l.fn.list) (take l.name-index l.names)) (g.S.States.tables l.fn.table) (g.S.States.tables l.table);
}
