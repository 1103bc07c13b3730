use Rattle.std.proofs.Common.{◌≡◌, drop}
use Rattle.serde_json.specs.View.{items_view, members_view}
use Rattle.tm_grammar.specs.Wrong.{wrong_item, wrong_member}
use Rattle.tm_grammar.proofs.wrong.+walk.Given as goal

abbrev pub invariant-wrong_item-loop-place : goal.invariant-wrong_item-loop-place
invariant-wrong_item-loop-place l = wrong_item l.shape l.place (items_view (drop l.place l.item-items)) ≡ wrong_item l.shape 0 (items_view l.item-items)

abbrev pub invariant-wrong_member-loop-key : goal.invariant-wrong_member-loop-key
invariant-wrong_member-loop-key l = wrong_member l.shape (members_view l.key-iterator) ≡ wrong_member l.shape (members_view l.members.entries)
