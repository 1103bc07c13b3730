use Rattle.std.proofs.Common.{◌≡◌, drop}
use Rattle.serde_json.specs.View.{items_view}
use Rattle.tm_theme_file.specs.Read.{items_are_blank}
use Rattle.tm_theme_file.proofs.read.items_are_blank.Given as goal

abbrev pub invariant-loop-item : goal.invariant-loop-item
invariant-loop-item l = items_are_blank (items_view (drop l.item-index l.items)) ≡ items_are_blank (items_view l.items)
