use Rattle.std.proofs.Common.{arith, sym, subst, map, take}
use Rattle.std.specs.Arc.{arc_value}
use Rattle.std.proofs.lemmas.List.{length-take-le}
use Rattle.tm_machine.specs.Changes.{HasNoBreak}
use Rattle.tm_text.proofs.SplitLines.{takes-run, run-no-break}
use Rattle.tm_text.proofs.split.take_some.Goals as goal

pub returns-clause-takes : goal.returns-clause-takes
returns-clause-takes c =
    takes-run (map arc_value c.args.lines.now.items) c.args.current.now.items c.extend_from_slice.new.self.items c.args.returned (take c.run_length-run.result c.args.text.now)
    c.in_ok-extend_from_slice.ensures.items
    (let l = length-take-le c.run_length-run.result c.args.text.now c.run_length-run.ensures.within in omega (arith, l))
    (subst (λ n. HasNoBreak (take n c.args.text.now)) (sym c.run_length-run.ensures.run) (run-no-break c.args.text.now))
