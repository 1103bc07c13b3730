use Rattle.std.proofs.Common.{◌≡◌, List, ℕ, map, take, string_bytes}
use Rattle.tm_app.specs.inner.Given.{AllGiven}
use Rattle.tm_app.specs.Told.{HasGrown, where_told}
use Rattle.tm_app.proofs.setup.load_trees.Given as goal

abbrev pub invariant-loop-name : goal.invariant-loop-name
invariant-loop-name g l = record {
  given : AllGiven (where_told (g.F.Files.bytes l.fn.files)) (take l.name-index (map string_bytes l.names)) l.trees.items;
  grows : HasGrown (g.F.Files.failed l.fn.files) (g.F.Files.failed l.files);
  kept : (other : List ℕ) → g.F.Files.bytes l.files other ≡ g.F.Files.bytes l.fn.files other;
}
