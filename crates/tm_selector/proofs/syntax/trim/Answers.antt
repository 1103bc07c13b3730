use Rattle.std.proofs.Common.{◌∙◌, sym, vec_len}
use Rattle.tm_selector.proofs.Kept.{as_kept, as_popped}
use Rattle.tm_selector.proofs.syntax.trim.Goals as goal

pub returns-then-ends_operand : goal.returns-then-ends_operand
returns-then-ends_operand c =
    as_kept c.loop-last.tokens.items c.deref.result.now c.in-Some.last.now c.deref.ensures.value c.in-Some.ensures.item.3.0 c.in-Some.ensures.item.3.1
    (sym c.ends_operand.ensures ∙ c.if-ends_operand.true) ∙ c.loop-last.invariant

pub loop-last-preserved-else-ends_operand-2 : goal.loop-last-preserved-else-ends_operand-2
loop-last-preserved-else-ends_operand-2 c =
    as_popped c.loop-last.tokens.items c.deref.result.now c.pop.new.self.items c.in-Some.last.now (vec_len c.loop-last.tokens) c.deref.ensures.value (sym c.deref.ensures.len) c.in-Some.ensures.item.3.0 c.in-Some.ensures.item.3.1
    (sym c.ends_operand.ensures ∙ c.if-ends_operand.false) c.pop.ensures.rest ∙ c.loop-last.invariant
