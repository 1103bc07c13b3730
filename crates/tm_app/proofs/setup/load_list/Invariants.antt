use Rattle.std.proofs.Common.{◌≡◌, List, ℕ, take}
use Rattle.tm_app.specs.inner.Given.{AreGiven}
use Rattle.tm_app.specs.Told.{HasGrown, where_told}
use Rattle.tm_app.proofs.setup.load_list.Given as goal

abbrev pub invariant-loop-named : goal.invariant-loop-named
invariant-loop-named g l = record {
  given : AreGiven (where_told (g.F.Files.bytes l.fn.files)) (take l.named-index l.list) l.settings.items;
  grows : HasGrown (g.F.Files.failed l.fn.files) (g.F.Files.failed l.files);
  kept : (other : List ℕ) → g.F.Files.bytes l.files other ≡ g.F.Files.bytes l.fn.files other;
}
