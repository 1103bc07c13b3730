use Rattle.std.proofs.Common.{◌≡◌, ◌++◌, drop, map}
use Rattle.std.specs.Prelude.{string_bytes}
use Rattle.serde_json.specs.View.{items_view}
use Rattle.tm_forms.specs.Settings.{texts_of}
use Rattle.tm_forms.proofs.settings.texts_of.Given as goal

abbrev pub invariant-loop-item : goal.invariant-loop-item
invariant-loop-item l = map string_bytes l.texts.items ++ texts_of (items_view (drop l.item-index l.items)) ≡ texts_of (items_view l.items)
