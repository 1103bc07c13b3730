use Rattle.std.proofs.Common.{arith, ◌-◌}
use Rattle.tm_model.proofs.ForcedRuns.{settled-whole}
use Rattle.tm_model.proofs.model.Model.settle.Goals as goal

pub returns-clause-all : goal.returns-clause-all
returns-clause-all g c = settled-whole g.T.LineTok.plain g.T.LineTok.tokenized g.T.LineTok.plain_cost g.T.LineTok.entries_made c.args.self.now c.force.new.self.entries (c.len.result - 1) c.prove_sound.ensures.sound (omega (arith, c.len.ensures)) c.force.result c.force.ensures.forced
