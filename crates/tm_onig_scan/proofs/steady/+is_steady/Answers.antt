use Rattle.std.proofs.Common.{arith}
use Rattle.tm_onig_scan.proofs.Steadied.{parts_none, parts_more}
use Rattle.tm_onig_scan.proofs.steady.+is_steady.Goals as goal

pub are_steady-loop-i-init : goal.are_steady-loop-i-init
are_steady-loop-i-init t c = parts_none c.args.parts.now

pub are_steady-loop-i-preserved : goal.are_steady-loop-i-preserved
are_steady-loop-i-preserved t c =
    parts_more c.args.parts.now c.loop-i.i c.index-parts-i.result (omega arith) (omega arith) c.index-parts-i.is c.loop-i.steady c.is_steady-steady.result c.loop-i.invariant c.is_steady-steady.ensures
