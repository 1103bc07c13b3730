use Rattle.std.proofs.Common.{sym, ◌∙◌}
use Rattle.tm_onig_atom.proofs.Texts.{before_here, before_on, before_past, rest_taken}
use Rattle.tm_onig_atom.proofs.slices.before.Goals as goal

pub returns-then-text-i : goal.returns-then-text-i
returns-then-text-i c =
    rest_taken c.args.text.now c.chars.i ∙ sym (before_here c.args.end c.args.text.now c.chars.i c.chars-test.true c.index-text-i.result c.index-text-i.is c.if-text-i.true)
    ∙ sym c.chars.invariant

pub chars-preserved : goal.chars-preserved
chars-preserved c = c.chars.invariant ∙ before_on c.args.end c.args.text.now c.chars.i c.chars-test.true c.index-text-i.result c.index-text-i.is c.if-text-i.false

pub returns : goal.returns
returns c = sym (before_past c.args.end c.args.text.now c.chars.i c.chars-test.false) ∙ sym c.chars.invariant
