use Rattle.std.proofs.Common.{◌≡◌, drop}
use Rattle.serde_json.specs.View.{items_view}
use Rattle.tm_forms.specs.Settings.{has_later_setting}
use Rattle.tm_forms.proofs.settings.later_among.Given as goal

abbrev pub invariant-loop-item : goal.invariant-loop-item
invariant-loop-item l = has_later_setting (items_view (drop l.item-index l.items)) ≡ has_later_setting (items_view l.items)
