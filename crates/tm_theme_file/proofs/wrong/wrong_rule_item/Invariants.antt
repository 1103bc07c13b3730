use Rattle.std.proofs.Common.{◌≡◌, drop}
use Rattle.serde_json.specs.View.{items_view}
use Rattle.tm_theme_file.specs.Wrong.{wrong_item, wrong_rule}
use Rattle.tm_theme_file.proofs.wrong.wrong_rule_item.Given as goal

abbrev pub invariant-loop-place : goal.invariant-loop-place
invariant-loop-place l = wrong_item wrong_rule l.place (items_view (drop l.place l.items)) ≡ wrong_item wrong_rule 0 (items_view l.items)
