use Rattle.std.proofs.Common.{◌≡◌, ◌++◌, drop}
use Rattle.serde_json.specs.View.{items_view}
use Rattle.tm_forms.specs.Settings.{all_files}
use Rattle.tm_forms.proofs.settings.all_files.Given as goal

abbrev pub invariant-loop-item : goal.invariant-loop-item
invariant-loop-item l = l.all.items ++ all_files (items_view (drop l.item-index l.items)) ≡ all_files (items_view l.items)
