use Rattle.tm_scope.proofs.Limits.{limits-trans}
use Rattle.tm_scope.proofs.WholePath.{next-ok, next-grows, next-full, next-absent}
use Rattle.tm_scope.proofs.scopes.ScopeTable.path_within.Goals as goal

pub returns-in-Err-clause-grows : goal.returns-in-Err-clause-grows
returns-in-Err-clause-grows c =
    next-grows c.args.path.now c.loop-name.name-index c.name-item.result (rw c.as_slice-name-items.ensures at c.loop-name-test.true) (rw c.as_slice-name-items.ensures at c.name-item.is) c.args.self.now c.loop-name.self c.loop-name.list c.loop-name.invariant.at
    c.push_text.new.self c.loop-name.invariant.grows c.push_text.ensures.grows

pub returns-in-Err-clause-absent : goal.returns-in-Err-clause-absent
returns-in-Err-clause-absent c =
    next-absent c.args.path.now c.loop-name.name-index c.name-item.result (rw c.as_slice-name-items.ensures at c.loop-name-test.true) (rw c.as_slice-name-items.ensures at c.name-item.is) c.args.self.now c.loop-name.self c.loop-name.list c.loop-name.invariant.at
    c.prove_known.ensures.entries c.loop-name.invariant.grows c.in-Err.ensures.absent

pub returns-in-Err-clause-full : goal.returns-in-Err-clause-full
returns-in-Err-clause-full c =
    next-full c.args.path.now c.loop-name.name-index c.name-item.result (rw c.as_slice-name-items.ensures at c.loop-name-test.true) (rw c.as_slice-name-items.ensures at c.name-item.is) c.args.self.now c.loop-name.self c.loop-name.list c.loop-name.invariant.at
    c.args.limit c.push_text.new.self c.in-Err.fault c.in-Err.ensures.full

pub loop-name-preserved : goal.loop-name-preserved
loop-name-preserved c = record {
  at = next-ok c.args.path.now c.loop-name.name-index c.name-item.result (rw c.as_slice-name-items.ensures at c.loop-name-test.true) (rw c.as_slice-name-items.ensures at c.name-item.is) c.args.self.now c.loop-name.self c.loop-name.list c.loop-name.invariant.at
      c.push_text.new.self c.in-Ok.longer c.in-Ok.ensures.ok;
  grows = next-grows c.args.path.now c.loop-name.name-index c.name-item.result (rw c.as_slice-name-items.ensures at c.loop-name-test.true) (rw c.as_slice-name-items.ensures at c.name-item.is) c.args.self.now c.loop-name.self c.loop-name.list c.loop-name.invariant.at
      c.push_text.new.self c.loop-name.invariant.grows c.push_text.ensures.grows;
  kept = limits-trans c.args.limit c.args.self.now c.loop-name.self c.push_text.new.self c.loop-name.invariant.kept c.push_text.ensures.limit;
}
