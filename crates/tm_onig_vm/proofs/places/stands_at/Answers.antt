use Rattle.tm_onig_vm.proofs.Texts.{differs, agrees}
use Rattle.tm_onig_vm.proofs.places.stands_at.Goals as goal

pub returns-then-not-has_char : goal.returns-then-not-has_char
returns-then-not-has_char c =
    differs c.args.fold c.args.text.now c.args.line.now c.args.pos c.loop-i.i c.index-text-i.result c.loop-i-test.true c.index-text-i.is _ c.loop-i.invariant c.if-not-has_char.ensures

pub loop-i-preserved : goal.loop-i-preserved
loop-i-preserved c =
    agrees c.args.fold c.args.text.now c.args.line.now c.args.pos c.loop-i.i c.index-text-i.result c.loop-i-test.true c.index-text-i.is _ c.loop-i.invariant c.if-not-has_char.ensures
