use Rattle.std.proofs.Common.{arith}
use Rattle.serde_json.specs.View.{view}
use Rattle.tm_grammar.proofs.Depths.{item-within}
use Rattle.tm_grammar.proofs.Lookups.{rule-built, capture-built}
use Rattle.tm_grammar.proofs.tree.+build.Goals as goal

pub captures_by_place-capture_in-requires : goal.captures_by_place-capture_in-requires
captures_by_place-capture_in-requires t c = (let h = item-within c.args.items.now c.loop-place.place c.index-items-place.result c.loop-place-test.true c.index-items-place.is in omega (arith, h, c.decreases), tt)

pub rules_in-rule_in-requires : goal.rules_in-rule_in-requires
rules_in-rule_in-requires t c = (let h = item-within c.args.items.now c.loop-place.place c.index-items-place.result c.loop-place-test.true c.index-items-place.is in omega (arith, h, c.decreases), tt)

pub capture_in-returns : goal.capture_in-returns
capture_in-returns t c = capture-built c.as_slice-at.result.now c.new.result c.args.path.items (view c.args.value.now) c.plain.result c.in_ok-name.name c.in_ok-content_name.content_name c.in_ok-patterns.patterns c.in_ok-repository.repository
    c.as_slice-at.ensures.value c.new.ensures c.plain.ensures c.in_ok-name.ensures c.in_ok-content_name.ensures c.in_ok-patterns.ensures c.in_ok-repository.ensures

pub rule_in-returns : goal.rule_in-returns
rule_in-returns t c = rule-built c.as_slice-at.result.now c.new.result c.args.path.items (view c.args.value.now)
    c.in_ok-text_at.field-0 c.in_ok-text_at-2.field-0 c.in_ok-text_at-3.field-0 c.in_ok-text_at-4.field-0 c.in_ok-text_at-5.field-0 c.in_ok-text_at-6.field-0 c.in_ok-text_at-7.field-0
    c.in_ok-captures.captures c.in_ok-begin_captures.begin_captures c.in_ok-end_captures.end_captures c.in_ok-while_captures.while_captures c.in_ok-patterns.patterns c.in_ok-repository.repository c.flag_at.result
    c.as_slice-at.ensures.value c.new.ensures
    c.in_ok-text_at.ensures c.in_ok-text_at-2.ensures c.in_ok-text_at-3.ensures c.in_ok-text_at-4.ensures c.in_ok-text_at-5.ensures c.in_ok-text_at-6.ensures c.in_ok-text_at-7.ensures
    c.in_ok-captures.ensures c.in_ok-begin_captures.ensures c.in_ok-end_captures.ensures c.in_ok-while_captures.ensures c.in_ok-patterns.ensures c.in_ok-repository.ensures c.flag_at.ensures
