use Rattle.std.proofs.Common.{◌≡◌, ◌++◌, drop}
use Rattle.serde_json.specs.View.{items_view}
use Rattle.tm_theme_file.specs.Read.{rules_of}
use Rattle.tm_theme_file.proofs.read.rules_of.Given as goal

abbrev pub invariant-loop-item : goal.invariant-loop-item
invariant-loop-item l = l.rules.items ++ rules_of (items_view (drop l.item-index l.items)) ≡ rules_of (items_view l.items)
