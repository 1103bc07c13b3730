use Rattle.std.proofs.Common.{◌≤◌, ◌-◌, length, take}
use Rattle.std.specs.Prelude.{map}
use Rattle.std.specs.Arc.{arc_value}
use Rattle.tm_text.specs.Split.{Takes}
use Rattle.tm_text.proofs.split.take_text.Given as goal

abbrev pub invariant-rest : goal.invariant-rest
invariant-rest l = record {
  takes : Takes
      (record { lines = map arc_value l.fn.lines.items; current = l.fn.current.items; returned = l.returned })
      (take l.at l.text)
      (record { lines = map arc_value l.lines.items; current = l.current.items; returned = l.now });
  within : l.at ≤ length l.text;
}

abbrev pub decreases-rest : goal.decreases-rest
decreases-rest l = length l.text - l.at
