use Rattle.tm_line.proofs.Insides.{one-made}
use Rattle.tm_line.proofs.prepared.insides_of.Goals as goal

pub loop-n-preserved : goal.loop-n-preserved
loop-n-preserved c =
    one-made c.args.rules.now c.loop-n.n c.loop-n.insides.items c.push.new.self.items c.in_ok-inside_of.field-0 c.loop-n.invariant c.in_ok-push.ensures.items c.in_ok-inside_of.ensures
