use Rattle.std.proofs.Common.{arith}
use Rattle.tm_outside.proofs.Taken.{next_took, next_within, front-took}
use Rattle.tm_outside.proofs.sink.write_all.Goals as goal

pub loop-at-preserved : goal.loop-at-preserved
loop-at-preserved g c =
    let ok = c.in-Ok.ensures.takes in
    record {
      within = next_within c.args.bytes.now c.loop-at.at c.in-Ok.count c.loop-at.invariant.within ok.1;
      took = next_took _ _ _ c.args.bytes.now c.loop-at.at c.in-Ok.count c.loop-at.invariant.took ok.0;
      never_falls = omega (arith, c.loop-at.invariant.never_falls, c.write.ensures.never_falls);
    }

pub returns-in-Err-clause-takes : goal.returns-in-Err-clause-takes
returns-in-Err-clause-takes g c = front-took _ _ _ c.args.bytes.now c.loop-at.at c.loop-at.invariant.took c.in-Err.ensures.takes
