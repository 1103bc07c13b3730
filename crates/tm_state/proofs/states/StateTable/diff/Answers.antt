use Rattle.std.proofs.Common.{◌∙◌, ◌++◌, ◌∷◌, [], ap, sym, arith, get_or}
use Rattle.std.specs.Prelude.{reverse}
use Rattle.tm_defs.specs.Tables.{state_at, frame_at}
use Rattle.tm_state.proofs.Difference.{leaves, drops, adds}
use Rattle.tm_state.proofs.states.StateTable.diff.Goals as goal

pub loop-from-preserved-then-to-from : goal.loop-from-preserved-then-to-from
loop-from-preserved-then-to-from c = record {
  from_low = omega (arith, c.innermost.ensures.before, c.loop-from.invariant.from_low);
  to_low = c.loop-from.invariant.to_low;
  split = (
    frame_at c.args.self.now c.innermost.result.0 ∷ c.loop-from.invariant.split.0,
    drops (state_at c.args.self.now c.args.a) (state_at c.args.self.now c.loop-from.from) (state_at c.args.self.now c.innermost.result.1) (frame_at c.args.self.now c.innermost.result.0) c.loop-from.invariant.split.0 c.loop-from.invariant.split.1 c.innermost.ensures.parts,
    omega (arith, c.loop-from.invariant.split.2),
  );
  added = c.loop-from.invariant.added;
  longest = λ front h k.
      let both = c.loop-from.invariant.longest front h k in
      (leaves c.args.self.now c.prove_closed.ensures.order c.loop-from.from c.loop-from.to c.innermost.result.1 (frame_at c.args.self.now c.innermost.result.0) c.innermost.ensures.parts c.loop-from.invariant.from_low c.loop-from.invariant.to_low c.if-to-from.true front both.0 both.1, both.1);
  small = omega (arith, c.loop-from.invariant.small, c.innermost.ensures.before);
}

pub loop-from-preserved : goal.loop-from-preserved
loop-from-preserved c = record {
  from_low = c.loop-from.invariant.from_low;
  to_low = omega (arith, c.innermost-else-to-from.ensures.before, c.loop-from.invariant.to_low);
  split = c.loop-from.invariant.split;
  added = adds (state_at c.args.self.now c.args.b) (state_at c.args.self.now c.loop-from.to) (state_at c.args.self.now c.innermost-else-to-from.result.1) (frame_at c.args.self.now c.innermost-else-to-from.result.0) c.in_ok-frame_data.field-0
      c.loop-from.pushed.items c.push.new.self.items c.loop-from.invariant.added c.innermost-else-to-from.ensures.parts c.in_ok-frame_data.ensures c.in_ok-push.ensures.items;
  longest = λ front h k.
      let both = c.loop-from.invariant.longest front h k in
      (both.0, leaves c.args.self.now c.prove_closed.ensures.order c.loop-from.to c.loop-from.from c.innermost-else-to-from.result.1 (frame_at c.args.self.now c.innermost-else-to-from.result.0) c.innermost-else-to-from.ensures.parts c.loop-from.invariant.to_low c.loop-from.invariant.from_low (omega (arith, c.if-to-from.false, c.loop-from-test.true)) front both.1 both.0);
  small = c.loop-from.invariant.small;
}

pub returns : goal.returns
returns c = record {
  kept = state_at c.args.self.now c.loop-from.from;
  dropped = c.loop-from.invariant.split.0;
  from_is = c.loop-from.invariant.split.1;
  pops = c.loop-from.invariant.split.2;
  to_is = c.loop-from.invariant.added ∙ ap (λ n. get_or c.args.self.now.states n [] ++ reverse c.loop-from.pushed.items) (sym c.loop-from-test.false) ∙ ap (λ l. state_at c.args.self.now c.loop-from.from ++ l) (sym (c.new.ensures ∙ c.reverse.ensures.items));
  longest = λ front h k. let both = c.loop-from.invariant.longest front h k in both.0;
}
