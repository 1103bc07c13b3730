use Rattle.std.proofs.Common.{◌≡◌, ◌≤◌, drop, length, map, List, ℕ}
use Rattle.std.specs.Borrow.{Bor}
use Rattle.tm_script.specs.Script.{steps_of, step_limit}
use Rattle.tm_script.specs.Steps.{said_in}
use Rattle.tm_script.proofs.Reading.{read_on}
use Rattle.tm_script.proofs.script.read_lines.Given as goal

abbrev pub invariant-loop-bytes : goal.invariant-loop-bytes
invariant-loop-bytes l = record {
  answer : read_on l.next l.steps.items (map (λ (line : Bor (List ℕ)). said_in line.now) (drop l.bytes-index l.lines)) ≡ steps_of (map (λ (line : Bor (List ℕ)). said_in line.now) l.lines);
  few : length l.steps.items ≤ step_limit;
  count : l.next ≡ l.bytes-index;
}
