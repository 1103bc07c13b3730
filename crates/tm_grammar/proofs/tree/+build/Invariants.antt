use Rattle.std.proofs.Common.{◌≡◌, ◌++◌, ◌+◌, ◌*◌, ◌≤◌, drop}
use Rattle.serde_json.specs.Data.{depth, items_depth, members_depth}
use Rattle.serde_json.specs.View.{view, items_view, members_view}
use Rattle.tm_grammar.specs.Tree.{rules_from, rules_named, captures_from, captures_named}
use Rattle.tm_grammar.proofs.tree.+build.Given as goal

abbrev pub decreases-rule_in : goal.decreases-rule_in
decreases-rule_in l = 3 * depth (view l.value.now) + 2

abbrev pub decreases-capture_in : goal.decreases-capture_in
decreases-capture_in l = 3 * depth (view l.value.now) + 2

abbrev pub decreases-patterns_at : goal.decreases-patterns_at
decreases-patterns_at l = 3 * depth (view l.value.now) + 1

abbrev pub decreases-repository_at : goal.decreases-repository_at
decreases-repository_at l = 3 * depth (view l.value.now) + 1

abbrev pub decreases-captures_at : goal.decreases-captures_at
decreases-captures_at l = 3 * depth (view l.value.now) + 1

abbrev pub decreases-captures_in : goal.decreases-captures_in
decreases-captures_in l = 3 * depth (view l.value.now) + 1

abbrev pub decreases-rules_in : goal.decreases-rules_in
decreases-rules_in l = 3 * items_depth (items_view l.items.now) + 3

abbrev pub decreases-captures_by_place : goal.decreases-captures_by_place
decreases-captures_by_place l = 3 * items_depth (items_view l.items.now) + 3

abbrev pub decreases-rules_by_name : goal.decreases-rules_by_name
decreases-rules_by_name l = 3 * members_depth (members_view l.members.now.entries) + 3

abbrev pub decreases-captures_by_key : goal.decreases-captures_by_key
decreases-captures_by_key l = 3 * members_depth (members_view l.members.now.entries) + 3

abbrev pub invariant-rules_in-loop-place : goal.invariant-rules_in-loop-place
invariant-rules_in-loop-place l = l.rules ++ rules_from l.path l.place (items_view (drop l.place l.items)) ≡ rules_from l.path 0 (items_view l.items)

abbrev pub invariant-captures_by_place-loop-place : goal.invariant-captures_by_place-loop-place
invariant-captures_by_place-loop-place l = l.captures ++ captures_from l.path l.place (items_view (drop l.place l.items)) ≡ captures_from l.path 0 (items_view l.items)

abbrev pub invariant-rules_by_name-loop-key : goal.invariant-rules_by_name-loop-key
invariant-rules_by_name-loop-key l =
    (l.rules ++ rules_named l.path (members_view l.key-iterator) ≡ rules_named l.path (members_view l.members.entries))
    × (members_depth (members_view l.key-iterator) ≤ members_depth (members_view l.members.entries))

abbrev pub invariant-captures_by_key-loop-key : goal.invariant-captures_by_key-loop-key
invariant-captures_by_key-loop-key l =
    (l.captures ++ captures_named l.path (members_view l.key-iterator) ≡ captures_named l.path (members_view l.members.entries))
    × (members_depth (members_view l.key-iterator) ≤ members_depth (members_view l.members.entries))
