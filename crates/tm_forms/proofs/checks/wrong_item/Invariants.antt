use Rattle.std.proofs.Common.{◌≡◌, drop}
use Rattle.serde_json.specs.View.{items_view}
use Rattle.tm_forms.specs.Checks.{wrong_item}
use Rattle.tm_forms.proofs.checks.wrong_item.Given as goal

abbrev pub invariant-loop-place : goal.invariant-loop-place
invariant-loop-place g l = wrong_item g.C.Check.wrong l.place (items_view (drop l.place l.items)) ≡ wrong_item g.C.Check.wrong 0 (items_view l.items)
