use Rattle.std.proofs.Common.{arith, refl, map}
use Rattle.std.specs.Arc.{arc_value}
use Rattle.tm_text.proofs.SplitLines.{split_of, takes-next, part-length}
use Rattle.tm_text.proofs.split.take_text.Goals as goal

pub rest-preserved : goal.rest-preserved
rest-preserved c = record {
  takes = takes-next (split_of (map arc_value c.args.lines.now.items) c.args.current.now.items c.args.returned) (split_of (map arc_value c.rest.lines.items) c.rest.current.items c.rest.now)
      (split_of (map arc_value c.take_some.new.lines.items) c.take_some.new.current.items c.in_ok-next.next) c.args.text.now _ c.rest.at c.in_ok-next.count c.rest.invariant.within refl c.rest.invariant.takes c.in_ok-next.ensures.takes;
  within = let l = part-length c.args.text.now c.rest.at in omega (arith, l, c.in_ok-next.ensures.some.1, c.rest.invariant.within);
}
